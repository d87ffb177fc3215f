-- `flow_components::rename` meets its contract: the labels passed are renamed, the others are as they were.
use mathlib.Core.Path.{◌≡◌, ap, ◌∙◌}
use native.Mathlib.Omega.{arith}
use Rattle.plant_def.specs.Limits.{places}
use Rattle.flow_def.specs.Labels.{renamed}
use Rattle.num_bytes.proofs.Lists.{written_none, written_put}
use Rattle.flow_def.proofs.Labels.{renamed_all}
use Rattle.flow_components.proofs.rename.Goals as goal

pub loop-x-init : goal.loop-x-init
loop-x-init c = written_none c.requires

pub loop-x-preserved : goal.loop-x-preserved
loop-x-preserved c =
    let a = c.args in
    let at = c.loop-x in
    let kept = ap (renamed a.lo a.hi) (at.invariant.rest at.x-index (omega arith)) in
    written_put at.invariant (omega arith) _ (c.renamed_label.ensures ∙ kept)

pub returns : goal.returns
returns c =
    let e : c.loop-x.x-index ≡ places = omega arith in
    renamed_all _ _ _ _ c.requires (rw e at c.loop-x.invariant)

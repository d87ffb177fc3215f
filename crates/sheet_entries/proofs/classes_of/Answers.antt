-- `sheet_entries::classes_of` meets its contract: after i turns the first i classes are written.
use mathlib.Core.Path.{◌≡◌, refl, sym, ◌∙◌}
use native.Mathlib.Omega.{arith}
use lib.ListN.{get_or, length-replicate}
use Rattle.plant_def.specs.Limits.{max_streams}
use Rattle.plant_def.specs.Plants.{no_stream}
use Rattle.plant_def.specs.Says.{plant_of}
use Rattle.flow_def.specs.declared.Class.TheVariants.{Withheld}
use Rattle.num_bytes.proofs.Lists.{written_none, written_put}
use Rattle.plant_def.proofs.Arrayed.{all_listed, stream_within}
use Rattle.flow_def.proofs.ByLabels.{classes_all}
use Rattle.flow_def.proofs.BySides.{class_in_lem}
use Rattle.sheet_entries.proofs.classes_of.Goals as goal

pub loop-i-init : goal.loop-i-init
loop-i-init c = written_none (length-replicate max_streams Withheld)

pub class_of-requires : goal.class_of-requires
class_of-requires c =
    let lt = c.loop-i-test.true in
    let s = stream_within c.args.p c.requires.0 _ lt in
    (omega (arith, s.from_in), omega (arith, s.to_in), c.requires.1.grouped.long, c.requires.1.low _ lt)

pub loop-i-preserved : goal.loop-i-preserved
loop-i-preserved c =
    let at = c.loop-i in
    let class = class_in_lem c.requires.0 c.requires.1 at.i c.loop-i-test.true in
    written_put at.invariant (omega (arith, c.requires.0.within.few_streams)) _ (c.class_of.ensures (get_or c.args.p.streams at.i no_stream) refl refl refl ∙ class)

pub returns : goal.returns
returns c =
    let at = c.loop-i in
    let e : at.i ≡ c.args.p.count = omega arith in
    classes_all (plant_of c.args.p) at.i max_streams _ (all_listed c.args.p c.requires.0 ∙ sym e) at.invariant

-- `newton_descend::by_label` meets its contract: the places passed have the potentials of their labels.
use Rattle.std.proofs.Common.{◌≡◌, ℕ, get_or, ap, arith}
use Rattle.plant_def.specs.Limits.{places}
use Rattle.num_bytes.proofs.Lists.{written_put}
use Rattle.newton_descend.proofs.Levels.{labels_all}
use Rattle.newton_descend.proofs.by_label.Goals as goal

pub loop-u-preserved : goal.loop-u-preserved
loop-u-preserved c = written_put c.loop-u.invariant c.loop-u-test.true _ (ap (λ (g : ℕ). get_or c.args.potentials g 0) c.from-g.ensures)

pub returns : goal.returns
returns c =
    let e : c.loop-u.u ≡ places = omega arith in
    labels_all c.args.potentials _ c.requires (rw e at c.loop-u.invariant)

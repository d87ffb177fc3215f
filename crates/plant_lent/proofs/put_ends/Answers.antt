-- Each turn hands over the next stream's ends.
use mathlib.Core.Path.{refl}
use Rattle.plant_def.specs.Plants.{no_stream}
use Rattle.num_lent.proofs.Handing.{one_handed}
use Rattle.plant_lent.proofs.put_ends.Invariants.{leaves, enters}
use Rattle.plant_lent.proofs.put_ends.Goals as goal

pub loop-k-preserved : goal.loop-k-preserved
loop-k-preserved c =
    let t = c.loop-k-test.true in
    (one_handed leaves c.loop-k.invariant.0 no_stream _ t refl, one_handed enters c.loop-k.invariant.1 no_stream _ t refl)

-- Each turn puts the next stream into the array.
use native.Mathlib.Omega.{arith}
use Rattle.plant_parts.specs.Inner.{meter_at}
use Rattle.plant_parts.proofs.Gather.{one_more}
use Rattle.plant_parts.proofs.meters_gathered.Goals as goal

pub loop-k-preserved : goal.loop-k-preserved
loop-k-preserved c =
    let a = c.args in
    one_more (meter_at a.from.now a.to.now a.metered.now a.weight.now a.reading.now) _ _ _ (omega (arith, c.requires.0, c.loop-k-test.true)) c.loop-k.invariant c.meter_at.ensures

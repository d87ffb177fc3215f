-- Each turn puts the next stream into the array, with its range.
use native.Mathlib.Omega.{arith}
use Rattle.plant_parts.proofs.Gather.{one_more}
use Rattle.plant_parts.proofs.ranges_gathered.Invariants.{within}
use Rattle.plant_parts.proofs.ranges_gathered.Goals as goal

pub loop-k-preserved : goal.loop-k-preserved
loop-k-preserved c =
    let a = c.args in
    one_more (within a.ranged.now a.low.now a.high.now a.meters) _ _ _ (omega (arith, c.requires.0, c.loop-k-test.true)) c.loop-k.invariant c.range_at.ensures

-- One stream more is written.
use Rattle.plant_write.proofs.Loops.{one_stream}
use native.Mathlib.Omega.{arith}
use Rattle.plant_write.proofs.put_streams.Goals as goal

pub loop-s-preserved : goal.loop-s-preserved
loop-s-preserved c = one_stream c.loop-s.invariant c.loop-s-test.true (omega arith) c.put_stream-size.ensures

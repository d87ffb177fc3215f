-- The streams passed are moved, the others are as they were.
use Rattle.plant_def.specs.Limits.{max_streams}
use Rattle.plant_def.specs.Plants.{no_stream}
use Rattle.num_bytes.proofs.Lists.{Written}
use Rattle.ranged_def.specs.Moves.{widened}
use Rattle.ranged_call.proofs.widen_all.Given as goal

abbrev pub invariant-loop-k : goal.invariant-loop-k
invariant-loop-k l = Written no_stream max_streams (λ k s. widened s) l.initial.streams l.streams l.k

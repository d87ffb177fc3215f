-- Each turn puts the next stream, with its range, into the array.
use mathlib.Core.Path.{◌≡◌}
use lib.ListN.{length}
use Rattle.plant_def.specs.Limits.{max_streams}
use Rattle.plant_parts.specs.Inner.{range_at}
use Rattle.certify_def.specs.Test.{wide_at, Gathered}
use Rattle.certify_call.proofs.ranges_gathered.Given as goal

abbrev pub invariant-loop-k : goal.invariant-loop-k
invariant-loop-k l = (length l.streams ≡ max_streams) × Gathered l.streams (λ j. range_at l.ranged l.low l.high (wide_at l.meters j) j) l.k

-- Each turn puts the next stream into the array, with its range.
use mathlib.Core.Path.{◌≡◌}
use mathlib.Core.List.{List}
use lib.IntN.{ℤ}
use Prim.Native.Nat.{ℕ}
use lib.ListN.{get_or}
use Rattle.plant_def.specs.declared.Stream.{Stream}
use Rattle.plant_def.specs.Limits.{max_streams}
use Rattle.plant_def.specs.Plants.{no_stream}
use Rattle.plant_def.specs.Says.{padded}
use Rattle.plant_parts.specs.Parts.{listed_to}
use Rattle.plant_parts.specs.Inner.{range_at}
use Rattle.plant_parts.proofs.ranges_gathered.Given as goal

-- The streams of an array, each with its range.
abbrev pub within : List ℕ → List ℤ → List ℤ → List Stream → ℕ → Stream
within qs ls hs ms k = range_at qs ls hs (get_or ms k no_stream) k

abbrev pub invariant-loop-k : goal.invariant-loop-k
invariant-loop-k l = l.streams ≡ padded max_streams (listed_to (within l.ranged l.low l.high l.meters) l.k)

-- What was read lies within the slice.
use mathlib.Core.Path.{◌≡◌}
use Prim.Native.Nat.{◌-◌, ◌≤◌}
use lib.ListN.{length}
use Rattle.programs.proofs.read_input.Given as goal

abbrev pub invariant-loop-size : goal.invariant-loop-size
invariant-loop-size g l = (l.size ≤ length l.file) × (length l.file ≡ length l.initial.file)

abbrev pub decreases-loop-size : goal.decreases-loop-size
decreases-loop-size g l = length l.file - l.size

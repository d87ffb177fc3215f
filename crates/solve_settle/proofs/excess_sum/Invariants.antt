-- `solve_settle::excess_sum` meets its contract: the sum of the first places.
use mathlib.Core.Path.{◌≡◌}
use Rattle.solve_def.proofs.Turns.{over_to}
use Rattle.solve_settle.proofs.excess_sum.Given as goal

abbrev pub invariant-loop-z : goal.invariant-loop-z
invariant-loop-z l = l.sum ≡ over_to l.nets l.z-index

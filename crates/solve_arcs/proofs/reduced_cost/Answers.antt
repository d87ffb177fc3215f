-- `solve_arcs::reduced_cost` meets its contract.
use mathlib.Core.Path.{◌∙◌, ap}
use Prim.Native.Nat.{ℕ, ◌≤◌}
use native.Mathlib.Omega.{arith}
use borrow.Author.Tests.{ltb-false}
use lib.Dec.{ltb}
use Rattle.num_bytes.proofs.Tests.{picked}
use Rattle.solve_def.specs.Sizes.{farthest}
use Rattle.solve_arcs.specs.Margins.{less_of}
use Rattle.solve_arcs.proofs.reduced_cost.Goals as goal

less_most : (a b : ℕ) → less_of a b ≤ b
less_most a b = picked (λ (x : ℕ). x ≤ b) (ltb b a) b a (λ o. omega arith) (λ o. ltb-false b a o)

pub returns : goal.returns
returns c = (c.lesser.ensures ∙ ap (λ (x : ℕ). less_of x farthest) c.saturating_sub.ensures, rw c.lesser.ensures (less_most c.saturating_sub.result farthest))

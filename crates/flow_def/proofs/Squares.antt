-- Squares of integers.
use mathlib.Core.Path.{◌≡◌, refl, sym, ◌∙◌}
use lib.IntN.{ℤ, pos, negsuc, ◌*ℤ◌}
use Prim.Native.Nat.{ℕ, ◌+◌, ◌*◌}
use native.Mathlib.Omega.{arith}
use Rattle.flow_def.specs.Flows.{square}
use Rattle.num_bytes.proofs.Integers.{diff, diff_iff, pos_diff, times_diff}

-- The square of an integer is its product with itself.
pub square_is : (x : ℤ) → pos (square x) ≡ x *ℤ x
square_is (pos a) = refl
square_is (negsuc a) = refl

-- The square of a difference, with the double product on the other side.
pub square_diff : (a b : ℕ) → square (diff a b) + 2 * (a * b) ≡ a * a + b * b
square_diff a b = omega (arith, (diff_iff _ _ _ _).0 (sym (pos_diff (square (diff a b))) ∙ square_is (diff a b) ∙ times_diff a b a b))

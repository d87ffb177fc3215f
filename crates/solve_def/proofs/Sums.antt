-- Sums: of one number throughout, and of none below 0.
use mathlib.Core.Path.{◌≡◌, ◌∙◌, ap}
use lib.IntN.{ℤ, pos, ◌+ℤ◌}
use Prim.Native.Nat.{ℕ, zero, suc, ◌*◌, ◌<◌}
use native.Mathlib.Omega.{arith}
use native.Mathlib.Decide.{ℕ_discrete}
use Rattle.num_bytes.proofs.Integers.{Le, plus_val}
use Rattle.num_bytes.proofs.Sums.{sum}

-- Of n numbers a.
pub sum_const : (n a : ℕ) → sum n (λ k. pos a) ≡ pos (n * a)
sum_const zero a = ap pos (omega arith)
sum_const (suc n) a = ap (λ (z : ℤ). pos a +ℤ z) (sum_const n a) ∙ ap pos (omega arith)

-- Where no part is below 0, the sum is not, and no part is above it.
sum_least : (n : ℕ) (f : ℕ → ℤ) → ((k : ℕ) → k < n → Le (pos 0) (f k)) → Le (pos 0) (sum n f)
sum_least zero f h = omega arith
sum_least (suc n) f h = omega (arith, h n (omega arith), sum_least n f (λ k l. h k (omega arith)), plus_val (f n) (sum n f))

-- Each part of a sum of which none is below 0 is at most the sum.
pub sum_holds : (n : ℕ) (f : ℕ → ℤ) → ((k : ℕ) → k < n → Le (pos 0) (f k)) → (k : ℕ) → k < n → Le (f k) (sum n f)
sum_holds zero f h k l = absurd (omega arith)
sum_holds (suc n) f h k l = elim (ℕ_discrete k n) [
  | yes q ↦ rw q (omega (arith, sum_least n f (λ j m. h j (omega arith)), plus_val (f n) (sum n f)))
  | no q ↦ omega (arith, h n (omega arith), sum_holds n f (λ j m. h j (omega arith)) k (omega arith), plus_val (f n) (sum n f))
]

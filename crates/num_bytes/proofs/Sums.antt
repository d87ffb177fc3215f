-- Sums of integers over 0 to n - 1, of places and of streams alike.
use mathlib.Core.Path.{◌≡◌, refl, sym, ◌∙◌, ap, ap₂}
use lib.IntN.{ℤ, pos, ◌+ℤ◌, ◌*ℤ◌, +ℤ_idl, +ℤ_idr, *ℤ-zero}
use Prim.Native.Nat.{ℕ, zero, suc, ◌<◌}
use native.Mathlib.Omega.{arith}
use native.Mathlib.Decide.{ℕ_discrete}
pub use Rattle.num_bytes.specs.Sums.{sum}
use Rattle.num_bytes.proofs.Integers.{Le, same, plus_val, plus_left_comm, plus_four, times_plus}

-- Terms that agree have one sum.
pub sum_same : (n : ℕ) (f g : ℕ → ℤ) → ((k : ℕ) → k < n → f k ≡ g k) → sum n f ≡ sum n g
sum_same zero f g h = refl
sum_same (suc n) f g h = ap₂ ◌+ℤ◌ (h n (omega arith)) (sum_same n f g (λ k l. h k (omega arith)))

-- Terms that are all 0 have sum 0.
pub sum_none : (n : ℕ) (f : ℕ → ℤ) → ((k : ℕ) → k < n → f k ≡ pos 0) → sum n f ≡ pos 0
sum_none zero f h = refl
sum_none (suc n) f h = ap₂ ◌+ℤ◌ (h n (omega arith)) (sum_none n f (λ k l. h k (omega arith)))

-- The sum of sums, term by term.
pub sum_plus : (n : ℕ) (f g : ℕ → ℤ) → sum n (λ k. f k +ℤ g k) ≡ sum n f +ℤ sum n g
sum_plus zero f g = refl
sum_plus (suc n) f g = ap (λ (z : ℤ). f n +ℤ g n +ℤ z) (sum_plus n f g) ∙ plus_four (f n) (g n) (sum n f) (sum n g)

-- A factor goes into the sum.
pub sum_times : (n : ℕ) (c : ℤ) (f : ℕ → ℤ) → c *ℤ sum n f ≡ sum n (λ k. c *ℤ f k)
sum_times zero c f = *ℤ-zero c
sum_times (suc n) c f = times_plus c (f n) (sum n f) ∙ ap (λ (z : ℤ). c *ℤ f n +ℤ z) (sum_times n c f)

-- The order of two summations does not count.
pub sum_swap : (m n : ℕ) (f : ℕ → ℕ → ℤ) → sum m (λ i. sum n (λ j. f i j)) ≡ sum n (λ j. sum m (λ i. f i j))
sum_swap zero n f = sym (sum_none n (λ j. pos 0) (λ j l. refl))
sum_swap (suc m) n f = ap (λ (z : ℤ). sum n (λ j. f m j) +ℤ z) (sum_swap m n f) ∙ sym (sum_plus n (λ j. f m j) (λ j. sum m (λ i. f i j)))

-- All but one are 0.
pub sum_only : (n v : ℕ) (f : ℕ → ℤ) → v < n → ((k : ℕ) → k < n → (k ≡ v → ⊥) → f k ≡ pos 0) → sum n f ≡ f v
sum_only zero v f l h = absurd (omega arith)
sum_only (suc n) v f l h = elim (ℕ_discrete n v) [
  | yes e ↦ rw (sum_none n f (λ k m. h k (omega arith) (λ q. omega arith)), e) (+ℤ_idr (f v))
  | no e ↦ rw (h n (omega arith) e, sum_only n v f (omega arith) (λ k m. h k (omega arith))) (+ℤ_idl (f v))
]

-- A sum taken from the front.
pub sum_front : (n : ℕ) (f : ℕ → ℤ) → sum (suc n) f ≡ f 0 +ℤ sum n (λ k. f (suc k))
sum_front zero f = refl
sum_front (suc n) f = ap (λ (z : ℤ). f (suc n) +ℤ z) (sum_front n f) ∙ plus_left_comm (f (suc n)) (f 0) (sum n (λ k. f (suc k)))

-- Terms that are at most others have a sum that is at most theirs.
pub sum_le : (n : ℕ) (f g : ℕ → ℤ) → ((k : ℕ) → k < n → Le (f k) (g k)) → Le (sum n f) (sum n g)
sum_le zero f g h = omega arith
sum_le (suc n) f g h = omega (arith, h n (omega arith), sum_le n f g (λ k l. h k (omega arith)), plus_val (f n) (sum n f), plus_val (g n) (sum n g))

-- Terms that are at most others, and whose sum is not less, are equal to them.
pub sum_tight : (n : ℕ) (f g : ℕ → ℤ) → ((k : ℕ) → k < n → Le (f k) (g k)) → Le (sum n g) (sum n f) → (k : ℕ) → k < n → f k ≡ g k
sum_tight zero f g h e k l = absurd (omega arith)
sum_tight (suc n) f g h e k l = elim (ℕ_discrete k n) [
  | yes q ↦ rw q (same (f n) (g n) (omega (arith, h n (omega arith), rest, plus_val (f n) (sum n f), plus_val (g n) (sum n g))))
  | no q ↦
      sum_tight n f g (λ j m. h j (omega arith)) (omega (arith, h n (omega arith), plus_val (f n) (sum n f), plus_val (g n) (sum n g)))
      k (omega arith)
]
  where
    rest : Le (sum n f) (sum n g)
    rest = sum_le n f g (λ j m. h j (omega arith))

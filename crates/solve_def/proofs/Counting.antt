-- How many of the places 0 to n a test holds of.
use mathlib.Core.Path.{◌≡◌, refl, sym, ◌∙◌}
use mathlib.Core.Bool.{Bool, true, false, not, ◌&&◌}
use Prim.Native.Nat.{ℕ, suc, ◌≤◌}
use native.Mathlib.Omega.{arith}
use native.Mathlib.Decide.{ℕ_discrete}
use borrow.Author.Tests.{ne_eqb}
use lib.Dec.{eqb}
use Rattle.num_bytes.proofs.Tests.{by_cases}
use Rattle.num_bytes.proofs.Counts as counts
use Rattle.num_bytes.proofs.Counts.{one}
use Rattle.solve_def.specs.Counts.{count_places}

-- No more than all.
pub count_most : (n : ℕ) (f : ℕ → Bool) → count_places n f ≤ suc n
unfolding count_places
count_most n f = counts.count_few (suc n) f

-- None, where the test holds of none.
pub count_none : (n : ℕ) (f : ℕ → Bool) → ((v : ℕ) → v ≤ n → f v ≡ false) → count_places n f ≡ 0
unfolding count_places
count_none n f h = counts.count_none (suc n) f (λ v l. h v (omega arith))

-- One place more.
pub count_more : (n e : ℕ) (f g : ℕ → Bool) → e ≤ n → f e ≡ false → g e ≡ true → ((v : ℕ) → (v ≡ e → ⊥) → g v ≡ f v) → count_places n g ≡ suc (count_places n f)
unfolding count_places
count_more n e f g l p q h = counts.count_one (suc n) e f g (omega arith) p q (λ v m o. sym (h v o))

-- Where it holds of n + 1 places, it holds of each.
pub count_full : (n : ℕ) (f : ℕ → Bool) → suc n ≤ count_places n f → (v : ℕ) → v ≤ n → f v ≡ true
unfolding count_places
count_full n f h v l = by_cases (f v) (λ t. t) (λ t. absurd (omega (
  arith,
  counts.count_le (suc n) f (λ k. true && not (eqb k v)) (λ k m. each k t),
  counts.count_but (suc n) v (λ k. true) (omega arith) refl,
  counts.count_all (suc n),
)))
  where
    each : (k : ℕ) → f v ≡ false → one (f k) ≤ one (true && not (eqb k v))
    each k t = elim (ℕ_discrete k v) [ yes q ↦ rw (q, t) (omega arith) | no q ↦ rw (ne_eqb k v q) (counts.one_most (f k)) ]

-- All, where it holds of all.
pub count_all : (n : ℕ) (f : ℕ → Bool) → ((v : ℕ) → v ≤ n → f v ≡ true) → count_places n f ≡ suc n
unfolding count_places
count_all n f h = counts.count_same (suc n) f (λ k. true) (λ v l. h v (omega arith)) ∙ counts.count_all (suc n)

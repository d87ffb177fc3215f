-- The verdict by a cost as it is written.
use mathlib.Core.Path.{◌≡◌, refl, ap}
use mathlib.Core.Bool.{Bool, true, ◌&&◌}
use mathlib.Core.List.{List, [], ◌∷◌}
use Prim.Native.Nat.{ℕ, zero, suc, ◌+◌, ◌-◌, ◌*◌, ◌≤◌, ◌<◌}
use native.Mathlib.Omega.{arith}
use native.Mathlib.Decide.{dec_le}
use native.Mathlib.Nat.{mul-le-mul_left, one-mul}
use borrow.Author.Tests.{leb-true, ltb-true}
use lib.Dec.{eqb, leb, ltb}
use lib.ListN.{get_or}
use Rattle.num_bytes.specs.Choice.{pick}
use Rattle.num_bytes.proofs.Tests.{same_test, and_left, and_right}
use Rattle.flow_def.specs.Test.{critical, critical_at, verdict_at}
use Rattle.sheet_def.specs.Totals.{top_cost, capped}
use Rattle.sheet_def.proofs.Capped.{capped_below, capped_above}

-- The critical values, and they with a quarter of any weights that 8 bytes hold, are far below the cap, so the verdict is the
-- same.
abbrev all_below : ℕ → List ℕ → Bool
all_below m [] = true
all_below m (x ∷ xs) = ltb x m && all_below m xs

below_at : (m : ℕ) (xs : List ℕ) → 1 ≤ m → all_below m xs ≡ true → (k : ℕ) → get_or xs k 0 < m
below_at m [] l e k = omega arith
below_at m (x ∷ xs) l e zero = ltb-true x m (and_left (ltb x m) (all_below m xs) e)
below_at m (x ∷ xs) l e (suc k) = below_at m xs l (and_right (ltb x m) (all_below m xs) e) k

-- So many times a cost that is above the cap is above the same times the cap.
below_test : (n c v : ℕ) → v < n * top_cost → leb (n * capped c) v ≡ leb (n * c) v
below_test n c v h = elim (dec_le c top_cost) [
  | yes l ↦ ap (λ (k : ℕ). leb (n * k) v) (capped_below c l)
  | no l ↦ same_test (leb (n * capped c) v) (leb (n * c) v)
      (λ t. absurd (omega (arith, leb-true (n * capped c) v t, ap (λ (k : ℕ). n * k) (capped_above c (omega arith)))))
      (λ t. absurd (omega (arith, leb-true (n * c) v t, mul-le-mul_left n (le_of c l))))
]
  where
    le_of : (c : ℕ) → (c ≤ top_cost → ⊥) → top_cost ≤ c
    le_of c l = omega arith

critical_low : (d : ℕ) → critical_at d < 65536
critical_low d = below_at 65536 critical (omega arith) refl (d - 1)

-- The verdict by the cost as it is written is the verdict by the cost itself.
pub capped_verdict : (d c q : ℕ) → q ≤ top_cost → verdict_at d (capped c) q ≡ verdict_at d c q
capped_verdict d c q h =
    let v = critical_at d in
    let l = critical_low d in
    let one : leb (capped c) v ≡ leb c v = simp one-mul at (below_test 1 c v (omega arith)) in
    let four : leb (4 * capped c) (4 * v + q) ≡ leb (4 * c) (4 * v + q) = below_test 4 c (4 * v + q) (omega arith) in
    λ i. pick (eqb d 0) 2 (pick (one i) 0 (pick (four i) 3 1))

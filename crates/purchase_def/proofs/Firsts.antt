-- Of two sets of one size, the one that has the stream where they first differ comes first.
use mathlib.Core.Path.{◌≡◌, refl}
use mathlib.Core.Bool.{Bool, true, false}
use mathlib.Core.List.{List, [], ◌∷◌}
use Prim.Native.Nat.{ℕ, zero, suc, ◌≤◌, ◌<◌}
use native.Mathlib.Omega.{arith}
use borrow.Author.Tests.{lt-ltb, eq-eqb}
use lib.Dec.{eqb, ltb}
use lib.ListN.{length}
use Rattle.num_bytes.proofs.Tests.{or_left, or_right, and_both}
use Rattle.num_bytes.specs.Sums.{count_to}
use Rattle.flow_def.specs.Metering.{chosen}
use Rattle.num_bytes.proofs.Counts.{count_front}
use Rattle.purchase_def.specs.Purchases.{numbers_from, not_later}

-- As many numbers as streams are chosen.
pub numbers_long : (i : ℕ) (set : List Bool) → length (numbers_from i set) ≡ count_to (length set) (chosen set)
numbers_long i [] = refl
numbers_long i (true ∷ set) = omega (arith, count_front (length set) (chosen (true ∷ set)), numbers_long (suc i) set)
numbers_long i (false ∷ set) = omega (arith, count_front (length set) (chosen (false ∷ set)), numbers_long (suc i) set)

starts : (i : ℕ) (set : List Bool) (y : ℕ) (ys : List ℕ) → numbers_from i set ≡ y ∷ ys → i ≤ y
starts i [] y ys e = let z : ◌≡◌ {A = ℕ} 0 1 = cc in absurd (omega arith)
starts i (true ∷ set) y ys e = let z : i ≡ y = cc in omega arith
starts i (false ∷ set) y ys e = omega (arith, starts (suc i) set y ys e)

-- At no first difference has the second set the stream.
abbrev pub Leads : List Bool → List Bool → Type 0
Leads bs cs = (m : ℕ) → m < length bs → ((k : ℕ) → k < m → chosen bs k ≡ chosen cs k) → chosen bs m ≡ false → chosen cs m ≡ true → ⊥

leads_on : (b : Bool) (bs cs : List Bool) → Leads (b ∷ bs) (b ∷ cs) → Leads bs cs
leads_on b bs cs h m l same = h (suc m) (omega arith) all
  where
    all : (k : ℕ) → k < suc m → chosen (b ∷ bs) k ≡ chosen (b ∷ cs) k
    all zero g = refl
    all (suc k) g = same k (omega arith)

-- Of two sets of one size, the one that leads comes first.
pub leads_first : (i : ℕ) (bs cs : List Bool) → length bs ≡ length cs → length (numbers_from i bs) ≡ length (numbers_from i cs) → Leads bs cs
    → not_later (numbers_from i bs) (numbers_from i cs) ≡ true
leads_first i [] cs e s h = refl
leads_first i (b ∷ bs) [] e s h = absurd (omega arith)
leads_first i (true ∷ bs) (true ∷ cs) e s h =
    or_right (ltb i i) _ (and_both (eqb i i) _ (eq-eqb i i refl) (leads_first (suc i) bs cs (omega arith) (omega arith) (leads_on true bs cs h)))
leads_first i (false ∷ bs) (false ∷ cs) e s h = leads_first (suc i) bs cs (omega arith) s (leads_on false bs cs h)
leads_first i (false ∷ bs) (true ∷ cs) e s h = absurd (h 0 (omega arith) (λ k l. absurd (omega arith)) refl refl)
leads_first i (true ∷ bs) (false ∷ cs) e s h = go (numbers_from (suc i) cs) refl
  where
    go : (ys : List ℕ) → numbers_from (suc i) cs ≡ ys → not_later (i ∷ numbers_from (suc i) bs) ys ≡ true
    go [] q = let z : length (numbers_from (suc i) cs) ≡ 0 = rw q in absurd (omega arith)
    go (y ∷ ys) q = or_left (ltb i y) _ (lt-ltb i y (starts (suc i) cs y ys q))

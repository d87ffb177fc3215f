-- Potentials lowered and amounts moved, place by place and stream by stream: elements, lengths and ranges.
use mathlib.Core.Path.{◌≡◌, refl, sym, ◌∙◌, ap}
use mathlib.Core.Bool.{Bool, true, false}
use mathlib.Core.List.{List, [], ◌∷◌}
use Prim.Native.Nat.{ℕ, zero, suc, ◌+◌, ◌-◌, ◌*◌, ◌≤◌, ◌<◌}
use native.Mathlib.Omega.{arith}
use native.Mathlib.Decide.{ℕ_discrete}
use lib.ListN.{length, get_or, set, length-set}
use lib.Seq.{get_or-set_same, get_or-set_other}
use Rattle.plant_def.specs.Limits.{max_streams}
use Rattle.solve_def.specs.Sizes.{most_flow, most_step}
use Rattle.solve_def.specs.Search.{fallen, lowered_by}
use Rattle.solve_def.specs.SearchNeeds.{Roomy}

-- The potentials of visited places lowered.
pub lowered_at : (ls : List Bool) (g : ℕ) (ps : List ℕ) (k : ℕ) → get_or (lowered_by ls g ps) k 0 ≡ fallen (get_or ls k false) g (get_or ps k 0)
unfolding lowered_by
lowered_at [] g ps k = refl
lowered_at (l ∷ ls) g [] k = sym (go (get_or (l ∷ ls) k false))
  where
    go : (b : Bool) → fallen b g 0 ≡ 0
    go true = omega arith
    go false = refl
lowered_at (l ∷ ls) g (p ∷ ps) zero = refl
lowered_at (l ∷ ls) g (p ∷ ps) (suc k) = lowered_at ls g ps k

-- As many potentials as before.
pub lowered_long : (ls : List Bool) (g : ℕ) (ps : List ℕ) → length (lowered_by ls g ps) ≡ length ps
unfolding lowered_by
lowered_long [] g ps = refl
lowered_long (l ∷ ls) g [] = refl
lowered_long (l ∷ ls) g (p ∷ ps) = ap suc (lowered_long ls g ps)

-- A potential falls by g at most.
pub fallen_least : (b : Bool) (g p : ℕ) → (fallen b g p ≤ p) × (p ≤ fallen b g p + g)
fallen_least true g p = (omega arith, omega arith)
fallen_least false g p = (omega arith, omega arith)

-- A property of each element survives a store.
pub set_each : (P : ℕ → Type 0) (xs : List ℕ) (i v n : ℕ) → i < length xs → P v → ((k : ℕ) → k < n → P (get_or xs k 0)) → (k : ℕ) → k < n → P (get_or (set xs i v) k 0)
set_each P xs i v n l p all k m = elim (ℕ_discrete k i) [
  | yes e ↦ rw (e, get_or-set_same xs i v 0 l) p
  | no e ↦ rw (get_or-set_other xs i k v 0 e) (all k m)
]

-- Room for one step less, and after one step.
pub roomy_less : {xs : List ℕ} {j : ℕ} → Roomy xs j → Roomy xs (j - 1)
roomy_less {xs} {j} r = record { long = r.long; low = λ k l. omega (arith, r.low k l); high = λ k l. omega (arith, r.high k l) }

-- A store leaves room for one step less.
pub roomy_set : {xs : List ℕ} {j : ℕ} → Roomy xs j → (i v : ℕ) → i < max_streams → (most_step * (j - 1) ≤ v) × (v + most_step * (j - 1) ≤ most_flow)
    → Roomy (set xs i v) (j - 1)
roomy_set {xs} {j} r i v l h =
    record {
      long = length-set xs i v ∙ r.long;
      low = set_each (λ n. most_step * (j - 1) ≤ n) xs i v max_streams (rw r.long l) h.0 (λ k m. (roomy_less r).low k m);
      high = set_each (λ n. n + most_step * (j - 1) ≤ most_flow) xs i v max_streams (rw r.long l) h.1 (λ k m. (roomy_less r).high k m);
    }

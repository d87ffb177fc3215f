-- The list of the definition's plant, by computing: without either meter the other one's reading balances at no cost.
use mathlib.Core.Path.{◌≡◌, refl}
use mathlib.Core.Bool.{true, false≢true}
use mathlib.Core.List.{List, [], ◌∷◌}
use lib.IntN.{ℤ, pos}
use Prim.Native.Nat.{ℕ, zero, suc, ◌≤◌, ◌<◌}
use native.Mathlib.Omega.{arith}
use lib.ListN.{length, get_or}
use Rattle.num_bytes.proofs.Filled.{blank_at}
use Rattle.plant_def.specs.Plants.{Plant}
use Rattle.plant_def.proofs.Limited.{within}
use Rattle.plant_def.proofs.Accepted.{accepted}
use Rattle.plant_def.proofs.Sample.{sample_plant}
use Rattle.flow_def.specs.Flows.{allowed, cost}
use Rattle.visit_def.specs.Visits.{without, LeastCost, is_listed, AllLeast, place_of, Ordered}
use Rattle.visit_def.specs.Says.{VisitsSays}
use Rattle.visit_def.specs.Sample.{sample_file, sample_visits, Sample}
use Rattle.visit_def.proofs.Promise.{meters_worth_a_visit, all_listed}

-- A flow that costs nothing is of least cost.
free : (p : Plant) (xs : List ℤ) → allowed p xs ≡ true → cost p.streams xs ≡ 0 → LeastCost p 0
free p xs a c = (xs, record { balance = a; least = λ ys b. omega (arith, c) }, rw c refl)

least : AllLeast sample_plant (λ k. 0)
least zero l t = free (without sample_plant 0) (pos 98 ∷ pos 98 ∷ pos 0 ∷ pos 98 ∷ []) refl refl
least (suc zero) l t = absurd (false≢true t)
least (suc (suc zero)) l t = absurd (false≢true t)
least (suc (suc (suc zero))) l t = free (without sample_plant 3) (pos 100 ∷ pos 100 ∷ pos 0 ∷ pos 100 ∷ []) refl refl
least (suc (suc (suc (suc k)))) l t = absurd (omega arith)

each : (k : ℕ) → k < length sample_plant.streams → is_listed sample_plant k ≡ true
    → (get_or sample_visits.streams (place_of sample_plant (λ k. 0) k) 0 ≡ suc k) × (get_or sample_visits.costs (place_of sample_plant (λ k. 0) k) 0 ≡ 0)
each zero l t = (refl, refl)
each (suc zero) l t = absurd (false≢true t)
each (suc (suc zero)) l t = absurd (false≢true t)
each (suc (suc (suc zero))) l t = (refl, refl)
each (suc (suc (suc (suc k)))) l t = absurd (omega arith)

past : (i : ℕ) → 2 ≤ i → (get_or sample_visits.streams i 0 ≡ 0) × (get_or sample_visits.costs i 0 ≡ 0)
past zero h = absurd (omega arith)
past (suc zero) h = absurd (omega arith)
past (suc (suc i)) h = (blank_at {A = ℕ} 0 94 i, blank_at {A = ℕ} 0 94 i)

ordered : Ordered sample_plant (λ k. 0) sample_visits
ordered = record { number = refl; count = refl; long = (refl, refl); each = each; past = past }

says : VisitsSays sample_file sample_visits
says = all_listed sample_plant (within sample_plant (accepted sample_file sample_plant refl).0) sample_visits (pos 98 ∷ pos 98 ∷ pos 0 ∷ pos 98 ∷ []) refl (λ k. 0) least ordered

-- The worked example.
pub sample : Sample
sample r s = meters_worth_a_visit.only sample_file r sample_visits s says

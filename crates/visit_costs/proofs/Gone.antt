-- A plant in its array with one meter gone.
use mathlib.Core.Path.{◌≡◌, refl, sym, ◌∙◌, ap}
use mathlib.Core.Bool.{Bool, true, false}
use mathlib.Core.List.{List, [], ◌∷◌}
use Prim.Native.Nat.{ℕ, zero, suc, ◌+◌, ◌<◌}
use native.Mathlib.Omega.{arith}
use native.Mathlib.Decide.{ℕ_discrete}
use lib.ListN.{length, get_or, set, take, length-set}
use lib.Seq.{get_or-set_same, get_or-set_other}
use Rattle.num_bytes.proofs.Tests.{clash}
use Rattle.plant_def.specs.declared.Stream.{Stream}
use Rattle.plant_def.specs.declared.Plant as Arrays
use Rattle.plant_def.specs.Plants.{Plant, no_stream}
use Rattle.plant_def.specs.Within.{Accepted}
use Rattle.plant_def.specs.Says.{plant_of}
use Rattle.plant_def.proofs.Arrayed.{listed_at}
use Rattle.flow_def.specs.Flows.{stream_at}
use Rattle.visit_def.specs.Visits.{unmeter, without, LeastCost, Feasible}
use Rattle.visit_def.proofs.Unmetered.{parts_gone, feasible}

take_set : {A : Type 0} (n : ℕ) (xs : List A) (k : ℕ) (v : A) → take n (set xs k v) ≡ set (take n xs) k v
take_set zero xs k v = refl
take_set (suc n) [] k v = refl
take_set (suc n) (x ∷ xs) zero v = refl
take_set {A} (suc n) (x ∷ xs) (suc k) v = ap (λ (l : List A). x ∷ l) (take_set n xs k v)

module _ (a : Arrays.Plant) (acc : Accepted a) (k : ℕ) (l : k < a.count) where
  -- The plant with the stream put in unmetered.
  abbrev pub gone : Arrays.Plant
  gone = record { units = a.units; count = a.count; streams = set a.streams k (unmeter (get_or a.streams k no_stream)) }

  -- It is accepted.
  pub gone_accepted : Accepted gone
  gone_accepted = record {
    long = length-set a.streams k (unmeter (get_or a.streams k no_stream)) ∙ acc.long;
    within = parts_gone acc.within k l (omega (arith, acc.long, acc.within.few_streams));
  }

  -- It is the plant without that meter.
  pub gone_is : plant_of gone ≡ without (plant_of a) k
  gone_is =
      let e : take a.count (set a.streams k (unmeter (get_or a.streams k no_stream))) ≡ set (take a.count a.streams) k (unmeter (stream_at (take a.count a.streams) k)) =
      take_set a.count a.streams k (unmeter (get_or a.streams k no_stream))
      ∙ ap (λ (s : Stream). set (take a.count a.streams) k (unmeter s)) (sym (listed_at a acc k l)) in
      λ i. record { units = a.units; streams = e i }

  -- The same of the stream that the code puts in.
  pub gone_right : (v : Stream) → v ≡ unmeter (get_or a.streams k no_stream)
      → Accepted (record { units = a.units; count = a.count; streams = set a.streams k v })
      × (plant_of (record { units = a.units; count = a.count; streams = set a.streams k v }) ≡ without (plant_of a) k)
  gone_right v e = rw e (gone_accepted, gone_is)

-- Without one meter there is a flow in range too.
pub gone_feasible : (p q : Plant) (k : ℕ) → q ≡ without p k → Feasible p → Feasible q
gone_feasible p q k e f = rw e (f.0, feasible p k f.0 f.1)

-- The costs found so far.
abbrev pub SoFar : Plant → List Bool → List ℕ → ℕ → Type 0
SoFar p listed costs n = (j : ℕ) → j < n → get_or listed j false ≡ true → LeastCost (without p j) (get_or costs j 0)

-- One cost more.
pub one_more : (p : Plant) (listed : List Bool) (costs : List ℕ) (k c : ℕ) → k < length costs → SoFar p listed costs k
    → (get_or listed k false ≡ true → LeastCost (without p k) c) → SoFar p listed (set costs k c) (k + 1)
one_more p listed costs k c l s h j m t = elim (ℕ_discrete j k) [
  | yes e ↦ rw (e, get_or-set_same costs k c 0 l) (h (ap (λ (i : ℕ). get_or listed i false) (sym e) ∙ t))
  | no e ↦ rw (get_or-set_other costs k j c 0 e) (s j (omega arith) t)
]

-- A stream that is not listed has none.
pub none_more : (p : Plant) (listed : List Bool) (costs : List ℕ) (k : ℕ) → SoFar p listed costs k → get_or listed k false ≡ false
    → SoFar p listed costs (k + 1)
none_more p listed costs k s n j m t = elim (ℕ_discrete j k) [
  | yes e ↦ clash (get_or listed k false) (ap (λ (i : ℕ). get_or listed i false) (sym e) ∙ t) n
  | no e ↦ s j (omega arith) t
]

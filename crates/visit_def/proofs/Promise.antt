-- What is promised of meters worth a visit, of every file; and what the call answers, by what was found.
use mathlib.Core.Path.{◌≡◌, refl, sym, ◌∙◌, ap}
use mathlib.Core.Bool.{Bool, true, false, false≢true}
use mathlib.Core.Logic.{◌↔◌, ⊎_elim}
use mathlib.Core.List.{List}
use lib.IntN.{ℤ}
use Prim.Native.Nat.{ℕ, ◌≤◌, ◌<◌}
use native.Mathlib.Omega.{arith}
use lib.ListN.{length}
use Rattle.num_bytes.proofs.Tests.{clash}
use Rattle.plant_def.specs.Results.{Read}
use Rattle.plant_def.specs.Limits.{max_streams}
use Rattle.plant_def.specs.Plants.{Plant}
use Rattle.plant_def.specs.Files.{Got, bad, got, read_plant}
use Rattle.plant_def.specs.Within.{Within}
use Rattle.plant_def.specs.Says.{plant_of, read_of}
use Rattle.plant_def.proofs.Limited.{within}
use Rattle.plant_def.proofs.Accepted.{accepted}
use Rattle.plant_def.proofs.Found.{says_bad, says_got}
use Rattle.flow_def.specs.declared.Class.{Class}
use Rattle.flow_def.specs.declared.Class.TheVariants.{Adjusted, AsRead, Given, Withheld}
use Rattle.flow_def.specs.Flows.{stream_at, allowed}
use Rattle.flow_def.specs.Classes.{class_of}
use Rattle.flow_def.specs.Overfull.{Overfull}
use Rattle.flow_def.proofs.Given.{class_means}
use Rattle.flow_def.proofs.Chained.{adjusted_of}
use Rattle.flow_def.proofs.Overfull.{overfull_none}
use Rattle.solve_def.proofs.Demand.{refusal_19}
use Rattle.sheet_def.specs.Sentences.{EndsJoined}
use Rattle.visit_def.specs.Results.{Visits}
use Rattle.visit_def.specs.Visits.{without, is_adjusted, is_listed, AllLeast, Ordered}
use Rattle.visit_def.specs.Says.{no_visits, VisitsFor, VisitsWith, VisitsSays, MetersWorthAVisit}
use Rattle.visit_def.proofs.Unmetered.{feasible, sheet_without, not_above, one_cost}
use Rattle.visit_def.proofs.Listing.{stands, in_order, one_list, ordered_by}
use Rattle.num_bytes.proofs.Counts.{count_few}

-- One answer of a plant.
same_for : (file : List ℕ) (p : Plant) → read_plant file ≡ got p → (r r' : Visits) → VisitsFor p r → VisitsFor p r' → r ≡ r'
same_for file p e r r' x y =
    let w = within p (accepted file p e).0 in
    ⊎_elim
    (λ c.
    let a = x.listed c.0 c.1.balance in
    let b = y.listed c.0 c.1.balance in
    one_list p w.few_streams b.0 r r'
    (ordered_by p a.0 b.0 (λ k l t. one_cost (without p k) (a.0 k) (b.0 k) (a.1 k l t) (b.1 k l t)) r a.2) b.2)
    (λ m. let n : (ys : List ℤ) → allowed p ys ≡ false = λ ys. overfull_none p w m.0 m.1 1 ys (omega arith) in x.unbalanced n ∙ sym (y.unbalanced n))
    (refusal_19.either file p e)

same_with : (file : List ℕ) (g : Got) → read_plant file ≡ g → (r r' : Visits) → VisitsWith g r → VisitsWith g r' → r ≡ r'
same_with file (bad f) e r r' x y = x ∙ sym y
same_with file (got p) e r r' x y = same_for file p e r r' x y

-- Which streams are listed, by chains.
adjusted_alone : (c : Class) → is_adjusted c ≡ true → c ≡ Adjusted
adjusted_alone Adjusted t = refl
adjusted_alone AsRead t = absurd (false≢true t)
adjusted_alone Given t = absurd (false≢true t)
adjusted_alone Withheld t = absurd (false≢true t)

which : (file : List ℕ) (p : Plant) → read_plant file ≡ got p → (k : ℕ) → k < length p.streams
    → (is_listed p k ≡ true) ↔ (((stream_at p.streams k).metered ≡ true) × (EndsJoined p k → ⊥))
which file p e k l =
    let w = within p (accepted file p e).0 in (
      λ t. let a = adjusted_alone (class_of p k) t in let m = (class_means p k Adjusted a).0 in (m, (adjusted_of p w k m).0 a),
      λ h. ap is_adjusted ((adjusted_of p w k h.0).1 h.1),
    )

-- The record of what is promised of meters worth a visit.
pub meters_worth_a_visit : MetersWorthAVisit
meters_worth_a_visit = record {
  feasible = feasible;
  some = sheet_without;
  not_above = not_above;
  which = which;
  one = one_cost;
  stands = λ p costs r few o i h. let s = stands p few costs r o i h in (s.0, s.1, s.2, s.4, s.5);
  in_order = λ p costs r few o. in_order p few costs r o;
  only = λ file. same_with file (read_plant file) refl;
}

-- By the plant: no flow in range, or the list.
module _ (p : Plant) (w : Within p) (r : Visits) where
  -- No flow in range: 19.
  pub none_balanced : (ms : List Bool) → Overfull p ms → r ≡ no_visits 19 → VisitsFor p r
  none_balanced ms m e = record {
    unbalanced = λ n. e;
    listed = λ ys t. clash (allowed p ys) t (overfull_none p w ms m 1 ys (omega arith));
  }

  -- The list of a plant that has a flow in range.
  pub all_listed : (xs : List ℤ) → allowed p xs ≡ true → (costs : ℕ → ℕ) → AllLeast p costs → Ordered p costs r → VisitsFor p r
  all_listed xs t costs l o = record {
    unbalanced = λ none. clash (allowed p xs) t (none xs);
    listed = λ ys s. (costs, l, o);
  }

-- By the reading.
module _ (file : List ℕ) (y : Read) (e : y ≡ read_of (read_plant file)) (r : Visits) where
  -- A file that is refused: its number, and no list.
  pub unread : (y.number ≡ 0 → ⊥) → r ≡ no_visits y.number → VisitsSays file r
  unread = says_bad (λ g. VisitsWith g r) file y e

  -- A file that is read: the answer of its plant.
  pub answered : y.number ≡ 0 → VisitsFor (plant_of y.plant) r → VisitsSays file r
  answered = says_got (λ g. VisitsWith g r) file y e

-- A list fits its arrays.
pub visits_fit : (file : List ℕ) (r : Visits) → VisitsSays file r → r.count ≤ max_streams
visits_fit file r x = go (read_plant file) refl x
  where
    go : (g : Got) → read_plant file ≡ g → VisitsWith g r → r.count ≤ max_streams
    go (bad f) e y = rw y (omega arith)
    go (got p) e y =
        let w = within p (accepted file p e).0 in
        ⊎_elim
        (λ c. let a = y.listed c.0 c.1.balance in omega (arith, a.2.count, count_few (length p.streams) (is_listed p), w.few_streams))
        (λ m. rw (y.unbalanced (λ ys. overfull_none p w m.0 m.1 1 ys (omega arith))) (omega arith))
        (refusal_19.either file p e)

-- The balance of a plant by its parts, with the solver's flow.
use mathlib.Core.Path.{◌≡◌, sym, ap, ◌∙◌}
use mathlib.Core.Bool.{true}
use mathlib.Core.List.{List, map}
use lib.IntN.{ℤ, pos}
use Prim.Native.Nat.{ℕ, ◌≤◌}
use native.Mathlib.Omega.{arith}
use borrow.Author.Tests.{ltb-true, ltb-false}
use lib.Dec.{ltb}
use lib.ListN.{take}
use lib.Seq.{get_or-take}
use Rattle.num_bytes.proofs.Tests.{by_cases}
use Rattle.plant_def.specs.declared.Plant as Arrays
use Rattle.plant_def.specs.Limits.{max_streams}
use Rattle.plant_def.specs.Plants.{Plant}
use Rattle.plant_def.specs.Within.{Accepted}
use Rattle.plant_def.specs.Says.{plant_of}
use Rattle.plant_def.proofs.Arrayed.{all_listed, within_of}
use Rattle.flow_def.specs.declared.Class.{Class}
use Rattle.flow_def.specs.declared.Class.TheVariants.{Adjusted, Withheld}
use Rattle.flow_def.specs.Flows.{amount_at, balanced, cost, Cheapest}
use Rattle.num_bytes.specs.Inner.{values}
use Rattle.flow_def.specs.Classes.{class_of, number_of, degrees}
use Rattle.flow_def.specs.Test.{verdict_at}
use Rattle.flow_def.specs.Shown.{adjusted}
use Rattle.flow_def.specs.Calls.{classes_of}
use Rattle.num_bytes.proofs.Lists.{values_same, values_at}
use Rattle.flow_def.proofs.Given.{number_is}
use Rattle.flow_def.proofs.Ranges.{balanced_of}
use Rattle.flow_def.proofs.ByLabels.{class_past}
use Rattle.solve_def.specs.Held.{unshifted, opened}
use Rattle.solve_def.specs.declared.Solved.{Solved}
use Rattle.solve_def.specs.Promise.{Solution}
use Rattle.sheet_def.specs.declared.Entry.{Entry}
use Rattle.sheet_def.specs.Balances.{entry_of, balance_of, BalanceSays}
use Rattle.sheet_def.specs.Totals.{top_cost, capped}
use Rattle.sheet_def.specs.Calls.{entries_of}
use Rattle.sheet_def.proofs.Entries.{entry_same}
use Rattle.sheet_cost.proofs.Rows.{take_opened}
use Rattle.sheet_entries.proofs.Verdicts.{capped_verdict}

-- A balance by its parts.
pub balance_is : (p : Plant) (xs : List ℤ) (es : List Entry) (c d q v : ℕ) → es ≡ values max_streams (λ k. entry_of (class_of p k) (number_of p xs k))
    → c ≡ capped (cost p.streams xs) → d ≡ degrees p → q ≡ adjusted p → q ≤ top_cost → v ≡ verdict_at d c q
    → record { streams = es; cost = c; degrees = d; verdict = v } ≡ balance_of p xs
unfolding balance_of
balance_is p xs es c d q v e ec ed eq h ev =
    let judged : v ≡ verdict_at (degrees p) (cost p.streams xs) (adjusted p) =
    ev ∙ (λ j. verdict_at (ed j) (ec j) (eq j)) ∙ capped_verdict (degrees p) (cost p.streams xs) (adjusted p) (rw (← eq) h) in
    λ i. record { streams = e i; cost = ec i; degrees = ed i; verdict = judged i }

-- The entries by classes and a balanced flow are the balance's.
module _ (p : Arrays.Plant) (xs : List ℤ) (a : Accepted p) (b : balanced (plant_of p) (take p.count xs) ≡ true) where
  number_at : (k : ℕ) → (class_of (plant_of p) k ≡ Withheld → ⊥) → amount_at xs k ≡ number_of (plant_of p) (take p.count xs) k
  number_at k n =
      let z = all_listed p a in
      by_cases (ltb k p.count)
      (λ t. let l = ltb-true k p.count t in
      sym (get_or-take p.count xs k (pos 0) l) ∙ sym (number_is (plant_of p) (within_of p a) (take p.count xs) b k (omega arith) n))
      (λ t. let l = ltb-false k p.count t in absurd (n (class_past (plant_of p) k (omega arith))))

  -- Entries by the amounts of a balanced flow are entries by the streams' numbers.
  pub entries_shown : entries_of (classes_of (plant_of p)) xs ≡ values max_streams (λ k. entry_of (class_of (plant_of p) k) (number_of (plant_of p) (take p.count xs) k))
  unfolding entries_of
  entries_shown =
      values_same max_streams _ (λ k. entry_of (class_of (plant_of p) k) (number_of (plant_of p) (take p.count xs) k))
      (λ k l. ap (λ (c : Class). entry_of c (amount_at xs k)) (values_at (class_of (plant_of p)) Adjusted max_streams k l)
      ∙ entry_same (class_of (plant_of p) k) _ _ (number_at k))

-- The flow of a solution, opened.
module _ (p : Arrays.Plant) (a : Accepted p) (s : Solved) (r : Solution p s) where
  abbrev xs : List ℤ
  xs = map unshifted s.flows

  flow_is : take p.count xs ≡ opened p.count s.flows
  flow_is = take_opened p.count s.flows

  flow_cheapest : Cheapest (plant_of p) (take p.count xs)
  flow_cheapest = rw flow_is r.cheapest

  -- Entries, cost, degrees and verdict together are a balance of the plant.
  pub balanced_so : (es : List Entry) (c d q v : ℕ) → es ≡ entries_of (classes_of (plant_of p)) (map unshifted s.flows)
      → c ≡ capped (cost (plant_of p).streams (opened p.count s.flows)) → d ≡ degrees (plant_of p) → q ≡ adjusted (plant_of p) → q ≤ top_cost
      → v ≡ verdict_at d c q
      → BalanceSays (plant_of p) (record { streams = es; cost = c; degrees = d; verdict = v })
  balanced_so es c d q v ees ec ed eq h ev =
      let costs = ec ∙ ap (λ (ys : List ℤ). capped (cost (plant_of p).streams ys)) (sym flow_is) in (
        take p.count xs,
        flow_cheapest,
        balance_is (plant_of p) (take p.count xs) es c d q v (ees ∙ entries_shown p xs a (balanced_of 1 (plant_of p) (take p.count xs) flow_cheapest.balance)) costs ed eq h ev,
      )

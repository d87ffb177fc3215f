-- One call: what becomes of the counters.
use mathlib.Core.Path.{◌≡◌, refl, sym, ap, ◌∙◌, subst}
use mathlib.Core.Logic.{◌⊎◌, inl, inr, ⊎_elim}
use mathlib.Core.List.{List}
use Prim.Native.Nat.{ℕ, suc, ◌≤◌, ◌<◌}
use native.Mathlib.Omega.{arith}
use borrow.Author.Tests.{eqb-true, eqb-false}
use lib.Dec.{eqb}
use lib.ListN.{length, length-set}
use lib.Seq.{get_or-set_same, get_or-set_other}
use Rattle.num_bytes.proofs.Tests.{by_cases}
use Rattle.plant_def.specs.Files.{Got, bad, got, read_plant}
use Rattle.plant_def.proofs.Accepted.{refused}
use Rattle.sheet_def.specs.declared.Sheet.{Sheet}
use Rattle.sheet_def.specs.Counters.{offices, top_sheet, counter_of, next_of, raised}
use Rattle.sheet_def.specs.Sentences.{call_fault, Refused}
use Rattle.sheet_def.specs.Says.{SheetWith, SheetSays}
use Rattle.sheet_def.proofs.Promise.{has_counter, one_left, call_faulty, call_taken}
use Rattle.sheet_history.specs.History.{Eight}

-- A sheet was drawn: the office has a counter with a number left, and it is raised.
pub record Drew (office : ℕ) (lasts : List ℕ) (r : Sheet) : Type 0 where
  pub done : r.number ≡ 0
  pub after : r.lasts ≡ raised office lasts
  pub known : office < offices
  pub left : counter_of office lasts ≡ top_sheet → ⊥

-- None was: the counters are as they were.
pub record Idle (lasts : List ℕ) (r : Sheet) : Type 0 where
  pub not_done : r.number ≡ 0 → ⊥
  pub same : r.lasts ≡ lasts

idle : (f : ℕ) (lasts o o' : List ℕ) (r : Sheet) → (f ≡ 0 → ⊥) → Refused f lasts o o' r → Idle lasts r
idle f lasts o o' r n w = record { not_done = λ e. n (sym (ap (λ (y : Sheet). y.number) w.0) ∙ e); same = ap (λ (y : Sheet). y.lasts) w.0 }

module _ (file : List ℕ) (office : ℕ) (lasts o o' : List ℕ) (r : Sheet) (s : SheetSays file office lasts o o' r) where
  by_file : call_fault office lasts o ≡ 0 → (g : Got) → read_plant file ≡ g → SheetWith g office lasts o o' r → Drew office lasts r ⊎ Idle lasts r
  by_file z (bad f) e w = inr (idle f lasts o o' r (refused file f e) w)
  by_file z (got p) e (inl d) = inl (record {
    done = ap (λ (y : Sheet). y.number) d.2;
    after = ap (λ (y : Sheet). y.lasts) d.2;
    known = has_counter office lasts o z;
    left = one_left office lasts o z;
  })
  by_file z (got p) e (inr m) = inr (record {
    not_done = λ n. let q = ap (λ (y : Sheet). y.number) m.2.0 in omega arith;
    same = ap (λ (y : Sheet). y.lasts) m.2.0;
  })

  -- A sheet is drawn, or the counters stay.
  pub step : Drew office lasts r ⊎ Idle lasts r
  step = by_cases (eqb (call_fault office lasts o) 0)
      (λ t. let z = eqb-true (call_fault office lasts o) 0 t in by_file z (read_plant file) refl (call_taken file office lasts o o' r s z))
      (λ t. let n = eqb-false (call_fault office lasts o) 0 t in inr (idle (call_fault office lasts o) lasts o o' r n (call_faulty file office lasts o o' r s n)))

-- What a sheet that is drawn makes of the counters.
module _ (office : ℕ) (lasts : List ℕ) (r : Sheet) (d : Drew office lasts r) where
  -- The office's own is one more,
  pub own_raised : length lasts ≡ offices → counter_of office r.lasts ≡ suc (counter_of office lasts)
  own_raised l = let k = d.known in ap (counter_of office) d.after ∙ get_or-set_same lasts office (next_of office lasts) 0 (omega arith)

  -- any other is the same,
  pub other_same : (k : ℕ) → (k ≡ office → ⊥) → counter_of k r.lasts ≡ counter_of k lasts
  other_same k n = ap (counter_of k) d.after ∙ get_or-set_other lasts office k (next_of office lasts) 0 n

  -- and they are eight, as before.
  pub drew_eight : Eight lasts → Eight r.lasts
  drew_eight w = record {
    long = ap length d.after ∙ length-set lasts office (next_of office lasts) ∙ w.long;
    fit = λ k. by_cases (eqb k office)
        (λ t. let e = eqb-true k office t in let n = d.left in
        subst (λ (j : ℕ). counter_of j r.lasts ≤ top_sheet) (sym e) (omega (arith, own_raised w.long, w.fit office, n)))
        (λ t. omega (arith, other_same k (eqb-false k office t), w.fit k));
  }

-- Where no sheet is drawn, the counters are eight, as before.
pub idle_eight : (lasts : List ℕ) (r : Sheet) → Idle lasts r → Eight lasts → Eight r.lasts
idle_eight lasts r d w = subst Eight (sym d.same) w

-- A call leaves eight counters.
pub step_eight : (file : List ℕ) (office : ℕ) (lasts o o' : List ℕ) (r : Sheet) → SheetSays file office lasts o o' r → Eight lasts → Eight r.lasts
step_eight file office lasts o o' r s w = ⊎_elim (λ d. drew_eight office lasts r d w) (λ d. idle_eight lasts r d w) (step file office lasts o o' r s)

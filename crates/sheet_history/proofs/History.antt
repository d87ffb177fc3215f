-- The counters over any sequence of calls: all that is promised.
use mathlib.Core.Path.{◌≡◌, refl, ap, ◌∙◌, subst}
use mathlib.Core.Bool.{Bool, true, false}
use mathlib.Core.Logic.{◌↔◌, inl, inr, ⊎_elim}
use mathlib.Core.List.{List, []}
use Prim.Native.Nat.{ℕ, suc}
use native.Mathlib.Omega.{arith}
use borrow.Author.Tests.{ne_eqb, eqb-false}
use lib.Dec.{eqb, ltb, leb}
use lib.ListN.{length}
use Rattle.num_bytes.specs.Choice.{pick, refuse_if, first_of}
use Rattle.num_bytes.specs.Bytes.{all_bytes, over}
use Rattle.num_bytes.specs.Inner.{PickT}
use Rattle.plant_def.specs.Files.{Got, bad, got, read_plant, most_records}
use Rattle.plant_def.proofs.Accepted.{refused}
use Rattle.flow_def.specs.Overfull.{unmarked}
use Rattle.sheet_def.specs.declared.Sheet.{Sheet}
use Rattle.sheet_def.specs.Totals.{plain_kind, least_slice}
use Rattle.sheet_def.specs.Sheets.{SheetParts, parts_bytes}
use Rattle.sheet_def.specs.Kept.{some_sheet, WithinSheet}
use Rattle.sheet_def.specs.Counters.{offices, top_sheet, counter_of, next_of, raised}
use Rattle.sheet_def.specs.Drawings.{sheet_of}
use Rattle.sheet_def.specs.Sentences.{call_fault, RefusedWith, Refused}
use Rattle.sheet_def.specs.Says.{SheetWith, SheetSays}
use Rattle.sheet_def.proofs.Unique.{no_choice}
use Rattle.sheet_def.proofs.Unfit.{reopening}
use Rattle.sheet_history.specs.Before.{read_before}
use Rattle.sheet_history.specs.History.{History}
use Rattle.sheet_history.proofs.Steps.{step, other_same}
use Rattle.sheet_history.proofs.Sequences.{kept, next, numbers}
use Rattle.sheet_history.proofs.Plain.{plain, change, follow}
use Rattle.sheet_history.proofs.Reading.{read_now, read_then}
use Rattle.sheet_history.proofs.Today.{some_before, as_today}

-- A call with other counters, where the calling office's is the same: the same answer, with what becomes of those.
module _ (file : List ℕ) (office : ℕ) (ls ms o o' : List ℕ) (e : counter_of office ls ≡ counter_of office ms) where
  abbrev among : Sheet → Sheet
  among r = record { number = r.number; written = r.written; lasts = pick (eqb r.number 0) (raised office ms) ms; marked = r.marked }

  same_fault : call_fault office ls o ≡ call_fault office ms o
  same_fault = ap (λ (n : ℕ). first_of (refuse_if (ltb (length o) least_slice) 1) (first_of (refuse_if (leb offices office) 22) (refuse_if (eqb n top_sheet) 2))) e

  refused_among : (bs : List Bool) (f : ℕ) (r : Sheet) → (f ≡ 0 → ⊥) → RefusedWith bs f ls o o' r → RefusedWith bs f ms o o' (among r)
  refused_among bs f r n w = (ap among w.0 ∙ kept_there, w.1)
    where
      kept_there : among (record { number = f; written = 0; lasts = ls; marked = bs }) ≡ record { number = f; written = 0; lasts = ms; marked = bs }
      kept_there = rw (ne_eqb f 0 n) refl

  with_among : (g : Got) → read_plant file ≡ g → (r : Sheet) → SheetWith g office ls o o' r → SheetWith g office ms o o' (among r)
  with_among (bad f) q r w = refused_among unmarked f r (refused file f q) w
  with_among (got p) q r (inl d) =
      let n : next_of office ls ≡ next_of office ms = ap suc e in
      inl (
        d.0,
        d.1,
        ap among d.2 ∙ (λ i. record { number = 0; written = length (sheet_of office p d.0 (n i)); lasts = raised office ms; marked = unmarked }),
        d.3 ∙ ap (λ (k : ℕ). over (sheet_of office p d.0 k) o) n,
      )
  with_among (got p) q r (inr m) = inr (m.0, m.1, refused_among m.0 19 r (λ z. omega arith) m.2)

  by_test : (b : Bool) → eqb (call_fault office ls o) 0 ≡ b → (r : Sheet)
      → PickT b (SheetWith (read_plant file) office ls o o' r) (Refused (call_fault office ls o) ls o o' r)
      → PickT b (SheetWith (read_plant file) office ms o o' (among r)) (Refused (call_fault office ms o) ms o o' (among r))
  by_test true t r s = with_among (read_plant file) refl r s
  by_test false t r s =
      subst (λ (f : ℕ). Refused f ms o o' (among r)) same_fault (refused_among unmarked (call_fault office ls o) r (eqb-false (call_fault office ls o) 0 t) s)

  says_among : (r : Sheet) → SheetSays file office ls o o' r → SheetSays file office ms o o' (among r)
  says_among r s =
      subst (λ (f : ℕ). PickT (eqb f 0) (SheetWith (read_plant file) office ms o o' (among r)) (Refused (call_fault office ms o) ms o o' (among r))) same_fault
      (by_test (eqb (call_fault office ls o) 0) refl r s)

alone : (file : List ℕ) (office : ℕ) (ls ms o o₁ o₂ : List ℕ) (r₁ r₂ : Sheet) → counter_of office ls ≡ counter_of office ms
    → SheetSays file office ls o o₁ r₁ → SheetSays file office ms o o₂ r₂ → (r₁.number ≡ r₂.number) × (r₁.written ≡ r₂.written) × (o₁ ≡ o₂)
alone file office ls ms o o₁ o₂ r₁ r₂ e a b =
    let same = no_choice file office ms o o₁ o₂ (among file office ls ms o o₁ e r₁) r₂ (says_among file office ls ms o o₁ e r₁ a) b in
    (ap (λ (y : Sheet). y.number) same.0.0, ap (λ (y : Sheet). y.written) same.0.0, same.1)

-- Exactly the sheets under a plain total were read.
read_before_lem : (b : List ℕ) (s : SheetParts) → all_bytes b ≡ true → (read_before b ≡ some_sheet s) ↔ ((parts_bytes s ≡ b) × WithinSheet s × (s.total.kind ≡ plain_kind))
read_before_lem b s a = (
  λ e. let r = read_now s most_records [] b e in let k = reopening.back b s a r.0 in (k.0, k.1, r.1.0),
  λ h. subst (λ (y : List ℕ). read_before y ≡ some_sheet s) h.0 (read_then s h.2 most_records [] (parts_bytes s) (reopening.there s h.1)),
)

-- All that is promised of any sequence of calls holds.
pub history : History
history = record {
  others = λ file office lasts o o' r s k n. ⊎_elim (λ d. other_same office lasts r d k n) (λ d. ap (counter_of k) d.same) (step file office lasts o o' r s);
  alone = alone;
  unknown = λ file office lasts o o' r s h. ⊎_elim (λ d. let k = d.known in absurd (omega arith)) (λ d. (d.not_done, d.same)) (step file office lasts o o' r s);
  kept = kept;
  next = next;
  numbers = numbers;
  read_before_lem = read_before_lem;
  as_before = λ b s e. let r = read_now s most_records [] b e in (r.0, r.1.0, r.1.1);
  before = some_before;
  as_today = as_today;
  plain = plain;
  change = change;
  follow = follow;
}

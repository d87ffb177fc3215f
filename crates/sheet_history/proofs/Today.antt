-- Calls before the change had answers, with the numbers that calls of today give.
use mathlib.Core.Path.{◌≡◌, refl, sym, ap, ◌∙◌, subst}
use mathlib.Core.Bool.{Bool, true, false}
use mathlib.Core.Logic.{inl, inr, ⊎_elim}
use mathlib.Core.List.{List, [], ◌∷◌}
use Prim.Native.Nat.{ℕ, suc, ◌+◌, ◌*◌}
use native.Mathlib.Omega.{arith}
use borrow.Author.Tests.{ne_eqb, le-ltb}
use lib.Dec.{eqb, ltb}
use lib.ListN.{length}
use Rattle.num_bytes.specs.Bytes.{over}
use Rattle.num_bytes.specs.Choice.{refuse_if, first_of}
use Rattle.num_bytes.specs.Inner.{PickT}
use Rattle.plant_def.specs.Limits.{max_streams}
use Rattle.plant_def.specs.Files.{Got, bad, got, read_plant}
use Rattle.plant_def.proofs.Accepted.{read_within}
use Rattle.flow_def.specs.Overfull.{unmarked}
use Rattle.sheet_def.specs.declared.Sheet.{Sheet}
use Rattle.sheet_def.specs.Totals.{stream_size, plain_size}
use Rattle.sheet_def.specs.Counters.{top_sheet, counter_of}
use Rattle.sheet_def.specs.Sentences.{call_fault}
use Rattle.sheet_def.specs.Says.{SheetWith, SheetSays}
use Rattle.sheet_def.proofs.Promise.{long_enough, one_left, call_taken}
use Rattle.sheet_def.proofs.Unique.{never_both}
use Rattle.sheet_def.proofs.Demands.{demands}
use Rattle.sheet_history.specs.Before.{plain_of, plain_fault, PlainRefused, PlainWith, PlainSays}

-- Every call had an answer.
module _ (file : List ℕ) (last : ℕ) (o : List ℕ) where
  abbrev none_drawn : List Bool → ℕ → Sheet
  none_drawn ms f = record { number = f; written = 0; lasts = last ∷ []; marked = ms }

  some_read : (g : Got) → read_plant file ≡ g → (o' : List ℕ) × (r : Sheet) × PlainWith g last o o' r
  some_read (bad f) e = (o, none_drawn unmarked f, (refl, refl))
  some_read (got p) e = ⊎_elim
      (λ c.
      let sheet = plain_of p c.0 (suc last) in
      (over sheet o, record { number = 0; written = length sheet; lasts = suc last ∷ []; marked = unmarked }, inl (c.0, c.1, refl, refl)))
      (λ m. (o, none_drawn m.0 19, inr (m.0, m.1, (refl, refl))))
      (demands.nineteen.either file p e)

  some_tested : (b : Bool)
      → (o' : List ℕ) × (r : Sheet) × PickT b (PlainWith (read_plant file) last o o' r) (PlainRefused unmarked (plain_fault last o) last o o' r)
  some_tested true = some_read (read_plant file) refl
  some_tested false = (o, none_drawn unmarked (plain_fault last o), (refl, refl))

  -- The answer of a call before the change.
  pub some_before : (o' : List ℕ) × (r : Sheet) × PlainSays file last o o' r
  some_before = some_tested (eqb (plain_fault last o) 0)

number_of : {r s : Sheet} → r ≡ s → r.number ≡ s.number
number_of e = ap (λ (y : Sheet). y.number) e

-- A slice and a number that are taken today were taken.
was_taken : (lasts o : List ℕ) → call_fault 0 lasts o ≡ 0 → eqb (plain_fault (counter_of 0 lasts) o) 0 ≡ true
was_taken lasts o z =
    let long = long_enough 0 lasts o z in
    let fits : ltb (length o) (max_streams * stream_size + plain_size) ≡ false = le-ltb (length o) (max_streams * stream_size + plain_size) (omega (arith, long)) in
    let left : eqb (counter_of 0 lasts) top_sheet ≡ false = ne_eqb (counter_of 0 lasts) top_sheet (one_left 0 lasts o z) in
    go _ _ fits left
  where
    go : (a b : Bool) → a ≡ false → b ≡ false → eqb (first_of (refuse_if a 1) (refuse_if b 2)) 0 ≡ true
    go a b e f = rw (e, f) refl

by_file : (file : List ℕ) (g : Got) → read_plant file ≡ g → (lasts o o₁ o₂ : List ℕ) (last : ℕ) (r s : Sheet) → PlainWith g last o o₁ r
    → SheetWith g 0 lasts o o₂ s → r.number ≡ s.number
by_file file (bad f) e lasts o o₁ o₂ last r s a b = number_of a.0 ∙ sym (number_of b.0)
by_file file (got p) e lasts o o₁ o₂ last r s (inl a) (inl b) = number_of a.2 ∙ sym (number_of b.2)
by_file file (got p) e lasts o o₁ o₂ last r s (inl a) (inr b) = never_both p (read_within file p e) a.0 a.1 b.0 b.1
by_file file (got p) e lasts o o₁ o₂ last r s (inr a) (inl b) = never_both p (read_within file p e) b.0 b.1 a.0 a.1
by_file file (got p) e lasts o o₁ o₂ last r s (inr a) (inr b) = number_of a.2.0 ∙ sym (number_of b.2.0)

-- Its number is that of today.
pub as_today : (file : List ℕ) (lasts o o₁ o₂ : List ℕ) (r s : Sheet) → call_fault 0 lasts o ≡ 0 → PlainSays file (counter_of 0 lasts) o o₁ r
    → SheetSays file 0 lasts o o₂ s → r.number ≡ s.number
as_today file lasts o o₁ o₂ r s z a b =
    let last : ℕ = counter_of 0 lasts in
    let plain : PlainWith (read_plant file) (counter_of 0 lasts) o o₁ r =
    subst (λ (t : Bool). PickT t (PlainWith (read_plant file) last o o₁ r) (PlainRefused unmarked (plain_fault last o) last o o₁ r)) (was_taken lasts o z) a in
    by_file file (read_plant file) refl lasts o o₁ o₂ last r s plain (call_taken file 0 lasts o o₂ s b z)

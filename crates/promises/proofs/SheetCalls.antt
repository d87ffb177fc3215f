-- The exported sheet call: by how many last numbers are lent.
use mathlib.Core.Path.{◌≡◌, refl, sym, ap, ◌∙◌, subst}
use mathlib.Core.Bool.{Bool, true, false}
use mathlib.Core.List.{List, ◌++◌}
use Prim.Native.Nat.{ℕ, ◌≤◌, ◌<◌}
use native.Mathlib.Omega.{arith}
use native.Mathlib.Decide.{dec_le}
use borrow.Author.Tests.{lt-ltb, le-ltb}
use lib.Dec.{ltb}
use lib.ListN.{length, take, drop, take-append-drop}
use Rattle.num_bytes.specs.Inner.{PickT}
use Rattle.num_lent.specs.Marks.{marks_in}
use Rattle.num_lent.proofs.OneNumber.{one_number}
use Rattle.flow_def.specs.Overfull.{unmarked}
use Rattle.sheet_def.specs.declared.Sheet.{Sheet}
use Rattle.sheet_def.specs.Counters.{offices}
use Rattle.sheet_def.specs.Sentences.{Refused}
use Rattle.sheet_def.specs.Says.{SheetSays}
use Rattle.sheet_def.proofs.Demands.{demands}
use Rattle.sheet_lent.specs.Lent.{fronted, LentSays}
use Rattle.wengeludo.specs.Calls.{SheetLent}
use Rattle.promises.specs.SheetCalls.{SheetCalls}

-- An answer by its number, the bytes written, the last numbers and the bits.
abbrev answer : ℕ → ℕ → List ℕ → ℕ → Sheet
answer number written ls bits = record { number = number; written = written; lasts = ls; marked = marks_in bits }

number_of : {r s : Sheet} → r ≡ s → r.number ≡ s.number
number_of e = ap (λ (y : Sheet). y.number) e

written_of : {r s : Sheet} → r ≡ s → r.written ≡ s.written
written_of e = ap (λ (y : Sheet). y.written) e

lasts_of : {r s : Sheet} → r ≡ s → r.lasts ≡ s.lasts
lasts_of e = ap (λ (y : Sheet). y.lasts) e

marked_of : {r s : Sheet} → r ≡ s → r.marked ≡ s.marked
marked_of e = ap (λ (y : Sheet). y.marked) e

-- What the call ensures, by how many numbers there are.
module _ (file : List ℕ) (office : ℕ) (ls o o' : List ℕ) (r : Sheet) (s : LentSays file office ls o o' r) where
  by_test : (b : Bool) → ltb (length ls) offices ≡ b
      → PickT b (Refused 1 ls o o' r) (SheetSays file office (take offices ls) o o' (fronted r) × (drop offices r.lasts ≡ drop offices ls))
  by_test b e =
      subst (λ (b : Bool). PickT b (Refused 1 ls o o' r) (SheetSays file office (take offices ls) o o' (fronted r) × (drop offices r.lasts ≡ drop offices ls))) e s

  when_few : length ls < offices → Refused 1 ls o o' r
  when_few h = by_test true (lt-ltb (length ls) offices h)

  when_eight : offices ≤ length ls → SheetSays file office (take offices ls) o o' (fronted r) × (drop offices r.lasts ≡ drop offices ls)
  when_eight h = by_test false (le-ltb (length ls) offices h)

-- No place is marked by 0.
none_marked : marks_in 0 ≡ unmarked
none_marked = refl

-- Lists that agree in their first so many and in the rest are one.
joined : (k : ℕ) (xs ys : List ℕ) → take k xs ≡ take k ys → drop k xs ≡ drop k ys → xs ≡ ys
joined k xs ys e f = sym (take-append-drop k xs) ∙ (λ i. e i ++ f i) ∙ take-append-drop k ys

module _ (file : List ℕ) (office : ℕ) (ls o : List ℕ) where
  few : (ls' o' : List ℕ) (written bits number : ℕ) → length ls < offices → SheetLent file office ls o ls' o' written bits number
      → (number ≡ 1) × (written ≡ 0) × (bits ≡ 0) × (ls' ≡ ls) × (o' ≡ o)
  few ls' o' written bits number h s =
      let w = when_few file office ls o o' (answer number written ls' bits) s.0 h in
      (number_of w.0, written_of w.0, one_number bits 0 s.1 (omega arith) (marked_of w.0 ∙ sym none_marked), lasts_of w.0, w.1)

  module _ (ls₁ ls₂ o₁ o₂ : List ℕ) (written₁ written₂ bits₁ bits₂ number₁ number₂ : ℕ) (s : SheetLent file office ls o ls₁ o₁ written₁ bits₁ number₁)
      (t : SheetLent file office ls o ls₂ o₂ written₂ bits₂ number₂) where
    abbrev Same : Type 0
    Same = (number₁ ≡ number₂) × (written₁ ≡ written₂) × (ls₁ ≡ ls₂) × (o₁ ≡ o₂) × ((number₁ ≡ 19 → ⊥) → bits₁ ≡ bits₂)

    same_few : length ls < offices → Same
    same_few h =
        let a = few ls₁ o₁ written₁ bits₁ number₁ h s in
        let b = few ls₂ o₂ written₂ bits₂ number₂ h t in
        (a.0 ∙ sym b.0, a.1 ∙ sym b.1, a.3 ∙ sym b.3, a.4 ∙ sym b.4, λ n. a.2 ∙ sym b.2)

    same_eight : offices ≤ length ls → Same
    same_eight h =
        let a = when_eight file office ls o o₁ (answer number₁ written₁ ls₁ bits₁) s.0 h in
        let b = when_eight file office ls o o₂ (answer number₂ written₂ ls₂ bits₂) t.0 h in
        let q = demands.no_choice file office (take offices ls) o o₁ o₂ (fronted (answer number₁ written₁ ls₁ bits₁)) (fronted (answer number₂ written₂ ls₂ bits₂)) a.0 b.0 in (
          number_of q.0.0,
          written_of q.0.0,
          joined offices ls₁ ls₂ (lasts_of q.0.0) (a.1 ∙ sym b.1),
          q.1,
          λ n. one_number bits₁ bits₂ s.1 t.1 (marked_of (q.0.1 n)),
        )

    same : Same
    same = elim (dec_le offices (length ls)) [
      | yes h ↦ same_eight h
      | no h ↦ same_few (omega arith)
    ]

-- All that is promised of the exported sheet call holds.
pub sheet_calls : SheetCalls
sheet_calls = record {
  few = few;
  eight = λ file office ls o ls' o' written bits number h top s.
      let w = when_eight file office ls o o' (answer number written ls' bits) s.0 h in
      (demands.sentences file office (take offices ls) o o' (fronted (answer number written ls' bits)) top w.0, w.1);
  no_choice = same;
}

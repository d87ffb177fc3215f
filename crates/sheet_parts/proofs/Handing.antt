-- Handing a kept sheet over: there is room in the slices.
use mathlib.Core.Path.{◌≡◌, refl, ap, ◌∙◌, subst}
use mathlib.Core.Bool.{Bool, true, false, ◌||◌}
use mathlib.Core.List.{List}
use lib.IntN.{ℤ}
use Prim.Native.Nat.{ℕ, ◌≤◌}
use native.Mathlib.Omega.{arith}
use lib.Dec.{ltb}
use lib.ListN.{length, take}
use borrow.Author.Tests.{ltb-false}
use Rattle.num_bytes.specs.Choice.{pick}
use Rattle.num_bytes.specs.Bytes.{over}
use Rattle.num_bytes.proofs.Tests.{or_none_left, or_none_right}
use Rattle.plant_def.specs.Limits.{max_streams}
use Rattle.num_bytes.proofs.Filled.{take_filled}
use Rattle.sheet_def.specs.declared.Entry.{Entry}
use Rattle.sheet_def.specs.Kept.{SheetRead, Reopened, no_sheet, some_sheet, blank, read_sheet, read_of}
use Rattle.sheet_def.proofs.Back.{few_read}
use Rattle.sheet_parts.specs.Kept.{read_lent, kinds_of, flows_of, number_of, parts_of, HandedOver}

-- A sheet has no more streams than there may be.
few_streams : (bytes : List ℕ) (g : Reopened) → read_sheet bytes ≡ g → (read_of g).count ≤ max_streams
few_streams bytes (no_sheet f) e = omega arith
few_streams bytes (some_sheet s) e = few_read bytes s e

-- What is handed over has room: no more than there may be, nor than either slice holds.
pub record Room (c k f : ℕ) : Type 0 where
  pub few : c ≤ max_streams
  pub in_kinds : c ≤ k
  pub in_flows : c ≤ f

room_by : (b : Bool) (g : Reopened) (k f : ℕ) (r : SheetRead) → (read_of g).count ≤ max_streams → (ltb k max_streams || ltb f max_streams) ≡ b
    → r ≡ read_of (pick b (no_sheet 1) g) → Room r.count k f
room_by true g k f r few t e =
    let z : r.count ≡ 0 = ap (λ (y : SheetRead). y.count) e in
    record { few = omega arith; in_kinds = omega arith; in_flows = omega arith }
room_by false g k f r few t e =
    let z : r.count ≡ (read_of g).count = ap (λ (y : SheetRead). y.count) e in
    let a = ltb-false k max_streams (or_none_left (ltb k max_streams) (ltb f max_streams) t) in
    let b = ltb-false f max_streams (or_none_right (ltb k max_streams) (ltb f max_streams) t) in
    record { few = omega arith; in_kinds = omega arith; in_flows = omega arith }

-- What was read has room in both slices.
pub room_lent : (bytes : List ℕ) (k f : ℕ) (r : SheetRead) → r ≡ read_of (read_lent bytes k f) → Room r.count k f
room_lent bytes k f r e =
    room_by (ltb k max_streams || ltb f max_streams) (read_sheet bytes) k f r (few_streams bytes (read_sheet bytes) refl) refl e

-- The streams of a reading, from the array that they are handed over in.
streams_back : (q : Reopened) → (read_of q).count ≤ max_streams → take (read_of q).count (read_of q).streams ≡ (parts_of q).streams
streams_back (no_sheet f) h = refl
streams_back (some_sheet s) h = take_filled blank max_streams s.streams h

number_is : (q : Reopened) → (read_of q).number ≡ number_of q
number_is (no_sheet f) = refl
number_is (some_sheet s) = refl

count_is : (q : Reopened) → (read_of q).count ≡ length (parts_of q).streams
count_is (no_sheet f) = refl
count_is (some_sheet s) = refl

total_is : (q : Reopened) → (read_of q).total ≡ (parts_of q).total
total_is (no_sheet f) = refl
total_is (some_sheet s) = refl

-- A reading, in the caller's slices and numbers.
pub handed_over : (q : Reopened) {y : SheetRead} {ks ks' : List ℕ} {fs fs' : List ℤ} → y ≡ read_of q → y.count ≤ max_streams
    → ks' ≡ over (kinds_of (take y.count y.streams)) ks → fs' ≡ over (flows_of (take y.count y.streams)) fs
    → HandedOver q ks ks' fs fs' y.number y.count y.total.kind y.total.office y.total.sheet y.total.cost y.total.degrees y.total.verdict
handed_over q {y} {ks = ks} {fs = fs} e h a b =
    let streams : take y.count y.streams ≡ (parts_of q).streams =
    ap (λ (x : SheetRead). take x.count x.streams) e ∙ streams_back q (subst (λ (x : SheetRead). x.count ≤ max_streams) e h) in
    record {
      numbered = ap (λ (x : SheetRead). x.number) e ∙ number_is q;
      counted = ap (λ (x : SheetRead). x.count) e ∙ count_is q;
      totalled = ap (λ (x : SheetRead). x.total) e ∙ total_is q;
      kinds = a ∙ ap (λ (es : List Entry). over (kinds_of es) ks) streams;
      flows = b ∙ ap (λ (es : List Entry). over (flows_of es) fs) streams;
    }

-- What is printed is the listing of the sheet that is drawn.
use mathlib.Core.Path.{◌≡◌, refl, sym, ap, ◌∙◌, subst}
use mathlib.Core.Bool.{Bool, true, false}
use mathlib.Core.Logic.{◌⊎◌, inl, inr}
use mathlib.Core.List.{List}
use lib.IntN.{ℤ}
use Prim.Native.Nat.{ℕ, ◌≤◌, ◌<◌}
use native.Mathlib.Omega.{arith}
use borrow.Author.Tests.{lt-ltb, le-ltb}
use lib.Dec.{ltb}
use lib.ListN.{length, take}
use Rattle.num_bytes.specs.Inner.{Put, PickT}
use Rattle.plant_def.specs.Plants.{Plant}
use Rattle.plant_def.specs.Files.{Got, bad, got, read_plant}
use Rattle.plant_def.specs.Within.{Within}
use Rattle.plant_def.proofs.Limited.{within}
use Rattle.plant_def.proofs.Accepted.{accepted}
use Rattle.flow_def.specs.Flows.{Cheapest}
use Rattle.sheet_def.specs.declared.Balance.{Balance}
use Rattle.sheet_def.specs.declared.Sheet.{Sheet}
use Rattle.sheet_def.specs.Balances.{balance_of}
use Rattle.sheet_def.specs.Counters.{offices_from}
use Rattle.sheet_def.specs.Sheets.{SheetParts}
use Rattle.sheet_def.specs.Drawings.{plant_parts}
use Rattle.sheet_def.specs.Kept.{some_sheet, read_sheet}
use Rattle.sheet_def.specs.Says.{SheetWith, SheetSays}
use Rattle.sheet_def.proofs.Promise.{call_taken}
use Rattle.sheet_def.proofs.Unique.{one_balance, never_both}
use Rattle.sheet_def.proofs.Answering.{ReadsBack}
use Rattle.sheet_def.proofs.Demands.{drawn_kept}
use Rattle.sheet_def.proofs.DeskTool.{same_parts}
use Rattle.listing_lines.specs.Listing.{listing_of, refusal_text}
use Rattle.listing_lines.specs.Room.{least_text}
use Rattle.listing_call.specs.Says.{Listed, Overfilled, ListWith, ListSays}
use Rattle.listing_call.specs.Sample.{sample_file}
use Rattle.listing_call.specs.Printed.{sheet_text, Printed, OwnListing}
use Rattle.listing_call.proofs.Sample.{sample}

module _ (file o o' : List ℕ) (r : ℕ) where
  by_length : (b : Bool) → ltb (length o) least_text ≡ b → ListSays file o o' r → PickT b ((r ≡ 0) × (o' ≡ o)) (ListWith (read_plant file) o o' r)
  by_length b t s = subst (λ (b : Bool). PickT b ((r ≡ 0) × (o' ≡ o)) (ListWith (read_plant file) o o' r)) t s

  short : length o < least_text → ListSays file o o' r → (r ≡ 0) × (o' ≡ o)
  short h s = by_length true (lt-ltb (length o) least_text h) s

  module _ (h : least_text ≤ length o) (s : ListSays file o o' r) where
    taken : (g : Got) → read_plant file ≡ g → ListWith g o o' r
    taken g e = subst (λ (g : Got). ListWith g o o' r) e (by_length false (le-ltb (length o) least_text h) s)

    -- The listing of any cheapest flow's balance.
    listed : (p : Plant) → read_plant file ≡ got p → (xs : List ℤ) → Cheapest p xs → Put (listing_of (length p.streams) 1 (balance_of p xs)) o o' r
    listed p e xs c = go (taken (got p) e)
      where
        w : Within p
        w = within p (accepted file p e).0

        go : Listed p o o' r ⊎ Overfilled p o o' r → Put (listing_of (length p.streams) 1 (balance_of p xs)) o o' r
        go (inl a) = subst (λ (b : Balance). Put (listing_of (length p.streams) 1 b) o o' r) (one_balance p w a.0 xs a.1 c) a.2
        go (inr m) = never_both p w xs c m.0 m.1

    -- A refusal, as the sheet call has it.
    told : (q : Sheet) (b b' : List ℕ) → (q.number ≡ 0 → ⊥) → (g : Got) → read_plant file ≡ g → SheetWith g 0 (offices_from 0) b b' q → Put (refusal_text q.number) o o' r
    told q b b' n (bad f) e z = subst (λ (k : ℕ). Put (refusal_text k) o o' r) (sym (ap (λ (y : Sheet). y.number) z.0)) (taken (bad f) e)
    told q b b' n (got p) e (inl d) = absurd (n (ap (λ (y : Sheet). y.number) d.2))
    told q b b' n (got p) e (inr m) = subst (λ (k : ℕ). Put (refusal_text k) o o' r) (sym (ap (λ (y : Sheet). y.number) m.2.0)) (go (taken (got p) e))
      where
        go : Listed p o o' r ⊎ Overfilled p o o' r → Put (refusal_text 19) o o' r
        go (inl a) = never_both p (within p (accepted file p e).0) a.0 a.1 m.0 m.1
        go (inr k) = k.2

drawn : (file b b' o o' : List ℕ) (q : Sheet) (s : SheetParts) (r : ℕ) → SheetSays file 0 (offices_from 0) b b' q → q.number ≡ 0
    → read_sheet (take q.written b') ≡ some_sheet s → least_text ≤ length o → ListSays file o o' r → Put (sheet_text s) o o' r
drawn file b b' o o' q s r says n read h list =
    let back : ReadsBack file 0 (offices_from 0) b' q = drawn_kept file 0 (offices_from 0) b b' q (omega arith) says n in
    let p = back.plant in
    let xs = back.flow in
    let e : plant_parts 0 p xs 1 ≡ s = same_parts (plant_parts 0 p xs 1) s (sym back.read ∙ read) in
    subst (λ (t : SheetParts). Put (sheet_text t) o o' r) e (listed file o o' r h list p back.listed xs back.cheapest)

-- What is printed is the listing of the sheet that a call draws.
pub printed : Printed
printed = record {
  short = short;
  sheet = drawn;
  refused = λ file b b' o o' q r says z n h list.
      told file o o' r h list q b b' n (read_plant file) refl (call_taken file 0 (offices_from 0) b b' q says z);
}

-- The definition's own listing.
pub own_listing : OwnListing
own_listing o o' r h list = subst (λ (t : List ℕ). Put t o o' r) sample.4 (listed sample_file o o' r h list sample.0 sample.2 sample.1 sample.3)

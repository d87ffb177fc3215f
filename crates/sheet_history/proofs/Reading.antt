-- What the sheet reader of before reads, the sheet reader reads alike.
use mathlib.Core.Path.{◌≡◌, refl, sym, ap, ◌∙◌, subst}
use mathlib.Core.Bool.{Bool, true, false, ◌||◌}
use mathlib.Core.List.{List, [], ◌∷◌, ◌++◌}
use Prim.Native.Nat.{ℕ, zero, suc}
use native.Mathlib.Omega.{arith}
use borrow.Author.Tests.{eqb-true, eqb-false}
use lib.Dec.{eqb, ltb, leb}
use lib.ListN.{length, get_or, drop}
use Rattle.num_bytes.specs.Choice.{pick}
use Rattle.num_bytes.proofs.Tests.{picked}
use Rattle.plant_def.specs.Limits.{max_streams}
use Rattle.flow_def.specs.declared.Class.TheVariants.{Adjusted, AsRead, Given}
use Rattle.sheet_def.specs.declared.Entry.{Entry}
use Rattle.sheet_def.specs.declared.Total.{Total}
use Rattle.sheet_def.specs.Totals.{total_kind, plain_kind, stream_size, total_size, plain_size}
use Rattle.sheet_def.specs.Sheets.{adjusted_kind, as_read_kind, given_kind, withheld_kind, SheetParts}
use Rattle.sheet_def.specs.Kept.{SheetRecord, Listed, Ended, Refused, Reopened, no_sheet, some_sheet, shown_in, blank}
use Rattle.sheet_def.specs.Kept.{stream_record, total_in, plain_in, end_fault, total_record, kind_record, record_at, on_record, sheet_with, records_from}
use Rattle.sheet_def.proofs.Back.{not_both}
use Rattle.sheet_history.specs.Before.{record_before, records_before}

-- A total without an office.
abbrev Plain : Total → Type 0
Plain t = (t.kind ≡ plain_kind) × (t.office ≡ 0)

-- Where a record ends the sheet, its total is plain.
abbrev EndsPlain : SheetRecord → Type 0
EndsPlain (Listed e m) = Unit {0}
EndsPlain (Ended t) = Plain t
EndsPlain (Refused f) = Unit {0}

module _ (c : ℕ) (s : List ℕ) where
  stream_plain : (size : ℕ) (e : Entry) → EndsPlain (stream_record size e c s)
  stream_plain size e = picked EndsPlain (leb max_streams c || ltb (length s) size) (Refused 13) (Listed e size) (λ t. tt) (λ t. tt)

  end_plain : EndsPlain (total_record plain_size (plain_in s) s)
  end_plain =
      picked EndsPlain (eqb (end_fault plain_size (plain_in s) s) 0) (Ended (plain_in s)) (Refused (end_fault plain_size (plain_in s) s)) (λ t. (refl, refl)) (λ t. tt)

  kind_plain : (k : ℕ) → eqb k total_kind ≡ false → EndsPlain (kind_record c k s)
  kind_plain k n =
      picked EndsPlain (eqb k adjusted_kind) _ _ (λ t. stream_plain stream_size (shown_in Adjusted s))
      (λ t. picked EndsPlain (eqb k as_read_kind) _ _ (λ t. stream_plain stream_size (shown_in AsRead s))
      (λ t. picked EndsPlain (eqb k given_kind) _ _ (λ t. stream_plain stream_size (shown_in Given s))
      (λ t. picked EndsPlain (eqb k withheld_kind) _ _ (λ t. stream_plain 1 blank)
      (λ t. picked EndsPlain (eqb k total_kind) _ _ (λ t. absurd (eqb-false k total_kind n (eqb-true k total_kind t)))
      (λ t. picked EndsPlain (eqb k plain_kind) _ (Refused 13) (λ t. end_plain) (λ t. tt))))))

  before_plain : EndsPlain (record_before c s)
  before_plain =
      picked EndsPlain (eqb (get_or s 0 0) total_kind) (Refused 13) (record_at c s) (λ t. tt)
      (λ n. picked EndsPlain (eqb (length s) 0) (Refused 13) (kind_record c (get_or s 0 0) s) (λ t. tt) (λ t. kind_plain (get_or s 0 0) n))

module _ (p : SheetParts) where
  -- One record more: what follows a stream's record is read by `was`, and by `now`.
  one_more : (done : List Entry) (was now : Entry → ℕ → Reopened) (t : Bool) (x : SheetRecord) → EndsPlain (pick t (Refused 13) x)
      → on_record (pick t (Refused 13) x) was (sheet_with done) no_sheet ≡ some_sheet p
      → ((e : Entry) (m : ℕ) → was e m ≡ some_sheet p → (now e m ≡ some_sheet p) × Plain p.total)
      → (on_record x now (sheet_with done) no_sheet ≡ some_sheet p) × Plain p.total
  one_more done was now true x h e rest = absurd (not_both 13 p e)
  one_more done was now false (Listed x m) h e rest = rest x m e
  one_more done was now false (Ended t) h e rest =
      let g : record { streams = done; total = t } ≡ p = cc in (e, subst (λ (q : SheetParts). Plain q.total) g h)
  one_more done was now false (Refused f) h e rest = absurd (not_both f p e)

  -- What was read before is read now, and its total is plain.
  pub read_now : (l : ℕ) (done : List Entry) (b : List ℕ) → records_before l done b ≡ some_sheet p → (records_from l done b ≡ some_sheet p) × Plain p.total
  read_now zero done b e = absurd (not_both 13 p e)
  read_now (suc l) done b e =
      one_more done (λ x m. records_before l (done ++ (x ∷ [])) (drop m b)) (λ x m. records_from l (done ++ (x ∷ [])) (drop m b)) (eqb (get_or b 0 0) total_kind)
      (record_at (length done) b) (before_plain (length done) b) e
      (λ x m. read_now l (done ++ (x ∷ [])) (drop m b))

-- A record of kind 0x1E lists no stream, and the total that it is has this kind.
abbrev EndsOffice : SheetRecord → Type 0
EndsOffice (Listed e m) = ⊥
EndsOffice (Ended t) = t.kind ≡ total_kind
EndsOffice (Refused f) = Unit {0}

total_office : (c : ℕ) (s : List ℕ) → eqb (get_or s 0 0) total_kind ≡ true → EndsOffice (record_at c s)
total_office c s t =
    picked EndsOffice (eqb (length s) 0) (Refused 13) (kind_record c (get_or s 0 0) s) (λ u. tt)
    (λ u. rw (eqb-true (get_or s 0 0) total_kind t)
    (picked EndsOffice (eqb (end_fault total_size (total_in s) s) 0) (Ended (total_in s)) (Refused (end_fault total_size (total_in s) s)) (λ v. refl) (λ v. tt)))

module _ (p : SheetParts) (kind : p.total.kind ≡ plain_kind) where
  -- One record more.
  one_then : (done : List Entry) (was now : Entry → ℕ → Reopened) (t : Bool) (x : SheetRecord) → (t ≡ true → EndsOffice x)
      → on_record x now (sheet_with done) no_sheet ≡ some_sheet p → ((e : Entry) (m : ℕ) → now e m ≡ some_sheet p → was e m ≡ some_sheet p)
      → on_record (pick t (Refused 13) x) was (sheet_with done) no_sheet ≡ some_sheet p
  one_then done was now true (Listed x m) h e rest = absurd (h refl)
  one_then done was now true (Ended t) h e rest =
      let g : record { streams = done; total = t } ≡ p = cc in
      let z : ◌≡◌ {A = ℕ} 30 31 = sym (h refl) ∙ ap (λ (q : SheetParts). q.total.kind) g ∙ kind in
      absurd (omega arith)
  one_then done was now true (Refused f) h e rest = absurd (not_both f p e)
  one_then done was now false (Listed x m) h e rest = rest x m e
  one_then done was now false (Ended t) h e rest = e
  one_then done was now false (Refused f) h e rest = absurd (not_both f p e)

  -- What is read now under a plain total was read then.
  pub read_then : (l : ℕ) (done : List Entry) (b : List ℕ) → records_from l done b ≡ some_sheet p → records_before l done b ≡ some_sheet p
  read_then zero done b e = absurd (not_both 13 p e)
  read_then (suc l) done b e =
      one_then done (λ x m. records_before l (done ++ (x ∷ [])) (drop m b)) (λ x m. records_from l (done ++ (x ∷ [])) (drop m b)) (eqb (get_or b 0 0) total_kind)
      (record_at (length done) b) (total_office (length done) b) e (λ x m. read_then l (done ++ (x ∷ [])) (drop m b))

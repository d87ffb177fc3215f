-- A sheet written from its parts and read again: the parts.
use mathlib.Core.Path.{◌≡◌, refl, sym, ap, ◌∙◌, subst}
use mathlib.Core.Bool.{Bool, true, false, not, ◌&&◌, ◌||◌, false≢true}
use mathlib.Core.Logic.{◌⊎◌, inl, inr, ⊎_elim}
use mathlib.Core.List.{List, [], ◌∷◌, ◌++◌, append_assoc, append-nil}
use lib.IntN.{ℤ, pos, nat_abs}
use Prim.Native.Nat.{ℕ, zero, suc, ◌+◌, ◌-◌, ◌<◌, ◌≤◌, ◌^◌}
use native.Mathlib.Omega.{arith}
use lib.Dec.{eqb}
use lib.ListN.{length, drop, length-append}
use lib.Seq.{drop-append_seam}
use borrow.Author.Tests.{le-ltb, lt-leb, eq-eqb, ne_eqb, eqb-true}
use Rattle.num_bytes.specs.Choice.{pick, refuse_if, first_of}
use Rattle.num_bytes.specs.Bytes.{be, put_be, signed, raw, holds}
use Rattle.num_bytes.proofs.Tests.{same_test, and_left, and_right}
use Rattle.num_bytes.proofs.Digits.{be_put}
use Rattle.num_bytes.proofs.Complement.{held_back, held_fits, zero_size}
use Rattle.plant_def.specs.Limits.{max_streams}
use Rattle.plant_def.specs.Files.{most_records}
use Rattle.flow_def.specs.declared.Class.{Class}
use Rattle.flow_def.specs.declared.Class.TheVariants.{Adjusted, AsRead, Given, Withheld}
use Rattle.sheet_def.specs.declared.Entry.{Entry}
use Rattle.sheet_def.specs.declared.Total.{Total}
use Rattle.sheet_def.specs.Totals.{total_kind, plain_kind, stream_size, total_size, plain_size}
use Rattle.sheet_def.specs.Sheets.{kind_of, record_of, records_of, body_of, total_bytes, SheetParts, parts_bytes}
use Rattle.sheet_def.specs.Kept.{SheetRecord, Listed, Ended, Refused, Reopened, no_sheet, some_sheet, stream_record, body_in, total_in, plain_in, total_fault, total_record, kind_record}
use Rattle.sheet_def.specs.Kept.{record_at, on_record, sheet_with, records_from, read_sheet, fits, all_fit, kind_fits, Recorded, WithinSheet, Unfit}

-- A record is there: it goes by its kind.
due : (c k : ℕ) (b : List ℕ) → record_at c (k ∷ b) ≡ kind_record c k (k ∷ b)
due c k b = simp (ne_eqb (suc (length b)) 0 (omega arith))

-- A stream record that is whole and has room.
stream_there : (size c : ℕ) (e d : Entry) (s : List ℕ) → c < max_streams → size ≤ length s → e ≡ d → stream_record size e c s ≡ Listed d size
stream_there size c e d s more l q = simp (lt-leb max_streams c more, le-ltb (length s) size l) (ap (λ (x : Entry). Listed x size) q)

-- A record with a number: its entry reads back.
shown_there : (k : Class) (x : ℤ) (r : List ℕ) (c : ℕ) → c < max_streams → holds 8 x ≡ true
    → let s = kind_of k ∷ put_be 8 (raw 8 x) ++ r in
    stream_record stream_size (record { class = k; flow = signed 8 (be 1 8 s) }) c s ≡ Listed (record { class = k; flow = x }) stream_size
shown_there k x r c more h =
    let s = kind_of k ∷ put_be 8 (raw 8 x) ++ r in
    let v : signed 8 (be 1 8 s) ≡ x = ap (signed 8) (be_put 8 (raw 8 x) r (held_fits 8 x h)) ∙ held_back 8 x h in
    stream_there stream_size c (record { class = k; flow = signed 8 (be 1 8 s) }) (record { class = k; flow = x }) s more (omega arith) (λ i. record { class = k; flow = v i })

record_there : (k : Class) (x : ℤ) (r : List ℕ) (c : ℕ) → c < max_streams → fits k x ≡ true
    → record_at c (record_of k x ++ r) ≡ Listed (record { class = k; flow = x }) (length (record_of k x))
record_there Adjusted x r c more f = due c (kind_of Adjusted) (put_be 8 (raw 8 x) ++ r) ∙ shown_there Adjusted x r c more f
record_there AsRead x r c more f = due c (kind_of AsRead) (put_be 8 (raw 8 x) ++ r) ∙ shown_there AsRead x r c more f
record_there Given x r c more f = due c (kind_of Given) (put_be 8 (raw 8 x) ++ r) ∙ shown_there Given x r c more f
record_there Withheld x r c more f =
    let z = zero_size x (eqb-true (nat_abs x) 0 f) in
    due c (kind_of Withheld) r
    ∙ stream_there 1 c (record { class = Withheld; flow = pos 0 }) (record { class = Withheld; flow = x }) (kind_of Withheld ∷ r) more (omega arith) (λ i. record { class = Withheld; flow = z i })

-- The two kinds of total, by the test.
kind_cases : (a b c : Bool) → (a || (b && c)) ≡ true → (a ≡ true) ⊎ ((b ≡ true) × (c ≡ true))
kind_cases true b c e = inl e
kind_cases false true true e = inr (e, e)
kind_cases false true false e = absurd (false≢true e)
kind_cases false false c e = absurd (false≢true e)

-- The fields of a total decide, and then whether anything follows.
abbrev judged : List ℕ → Total → SheetRecord
judged r u = let f = first_of (total_fault u) (refuse_if (not (eqb (length r) 0)) 15) in pick (eqb f 0) (Ended u) (Refused f)

-- The total, and whatever follows it.
module _ (t : Total) (kind : kind_fits t.kind t.office ≡ true) (small : t.sheet < 256 ^ 4) (paid : t.cost < 256 ^ 8) (r : List ℕ) where
  -- With another kind and another office.
  abbrev under : ℕ → ℕ → Total
  under k j = record { kind = k; office = j; sheet = t.sheet; cost = t.cost; degrees = t.degrees; verdict = t.verdict }

  abbrev body : List ℕ
  body = body_of t.sheet t.cost t.degrees t.verdict ++ r

  body_same : (k j : ℕ) → body_in k j body ≡ under k j
  body_same k j =
      let n = be_put 4 t.sheet (put_be 8 t.cost ++ (t.degrees ∷ t.verdict ∷ r)) small in
      let c = be_put 8 t.cost (t.degrees ∷ t.verdict ∷ r) paid in
      λ i. record { kind = k; office = j; sheet = n i; cost = c i; degrees = t.degrees; verdict = t.verdict }

  whole_there : (size : ℕ) (u v : Total) (s : List ℕ) → length s ≡ size + length r → u ≡ v → total_record size u s ≡ judged r v
  whole_there size u v s l e =
      let after : eqb (length s) size ≡ eqb (length r) 0 = same_test (eqb (length s) size) (eqb (length r) 0)
      (λ d. let z = eqb-true (length s) size d in eq-eqb (length r) 0 (omega arith)) (λ d. let z = eqb-true (length r) 0 d in eq-eqb (length s) size (omega arith)) in
      ap (λ (w : Total). total_record size w s) e ∙ simp (le-ltb (length s) size (omega arith), after)

  total_there : (c : ℕ) → record_at c (total_bytes t ++ r) ≡ judged r t
  total_there c = ⊎_elim office plain (kind_cases (eqb t.kind total_kind) (eqb t.kind plain_kind) (eqb t.office 0) kind)
    where
      office : eqb t.kind total_kind ≡ true → record_at c (total_bytes t ++ r) ≡ judged r t
      office e =
          let s = total_kind ∷ t.office ∷ body in
          subst (λ (k : ℕ). record_at c (total_bytes (under k t.office) ++ r) ≡ judged r (under k t.office)) (sym (eqb-true t.kind total_kind e))
          (due c total_kind (t.office ∷ body) ∙ whole_there total_size (total_in s) (under total_kind t.office) s (omega arith) (body_same total_kind t.office))

      plain : (eqb t.kind plain_kind ≡ true) × (eqb t.office 0 ≡ true) → record_at c (total_bytes t ++ r) ≡ judged r t
      plain e =
          let z : t.office ≡ 0 = eqb-true t.office 0 e.1 in
          let s = plain_kind ∷ body in
          (λ i. record_at c (total_bytes (under (eqb-true t.kind plain_kind e.0 i) (z i)) ++ r))
          ∙ due c plain_kind body
          ∙ whole_there plain_size (plain_in s) (under plain_kind 0) s (omega arith) (body_same plain_kind 0)
          ∙ (λ i. judged r (under (sym (eqb-true t.kind plain_kind e.0) i) (sym z i)))

-- Entries are listed, and the reading goes on behind them.
run : (es done : List Entry) (b : List ℕ) (k l : ℕ) → k ≡ length es + l → length done + length es ≤ max_streams → all_fit es ≡ true
    → records_from k done (records_of es ++ b) ≡ records_from l (done ++ es) b
run [] done b k l e h f =
    let same : k ≡ l = omega arith in
    (λ i. records_from (same i) (sym (append-nil done) i) b)
run (x ∷ es) done b zero l e h f = absurd (omega arith)
run (x ∷ es) done b (suc k) l e h f =
    let own = record_of x.class x.flow in
    let r = records_of es ++ b in
    let here : record_at (length done) (own ++ r) ≡ Listed x (length own) =
    record_there x.class x.flow r (length done) (omega arith) (and_left (fits x.class x.flow) (all_fit es) f) in
    ap (records_from (suc k) done) (append_assoc own (records_of es) b)
    ∙ ap (λ (h : SheetRecord). on_record h (λ y m. records_from k (done ++ (y ∷ [])) (drop m (own ++ r))) (sheet_with done) no_sheet) here
    ∙ ap (records_from k (done ++ (x ∷ []))) (drop-append_seam own r)
    ∙ run es (done ++ (x ∷ [])) b k l (omega arith) (omega (arith, length-append done (x ∷ []))) (and_right (fits x.class x.flow) (all_fit es) f)
    ∙ ap (λ (t : List Entry). records_from l t b) (append_assoc done (x ∷ []) es)

-- What a reading of the records of a sheet comes to, whatever follows them, by its total's fields and by whether anything follows.
abbrev judged_sheet : SheetParts → List ℕ → Reopened
judged_sheet s r =
    let more : Entry → ℕ → Reopened = λ e m. records_from (max_streams - length s.streams) (s.streams ++ (e ∷ [])) (drop m (total_bytes s.total ++ r)) in
    on_record (judged r s.total) more (sheet_with s.streams) no_sheet

-- (At any fuel that is enough: a numeral here would be unfolded.)
all_there : (l : ℕ) (s : SheetParts) (r : List ℕ) → l ≡ most_records → Recorded s → records_from l [] (parts_bytes s ++ r) ≡ judged_sheet s r
all_there l s r e w =
    let es = s.streams in
    let t = s.total in
    let j = max_streams - length es in
    let few = w.few in
    ap (records_from l []) (append_assoc (records_of es) (total_bytes t) r)
    ∙ run es [] (total_bytes t ++ r) l (suc j) (omega arith) (omega arith) w.flows
    ∙ ap (λ (h : SheetRecord). on_record h (λ y m. records_from j (es ++ (y ∷ [])) (drop m (total_bytes t ++ r))) (sheet_with es) no_sheet)
    (total_there t w.kind w.number w.cost r (length es))

-- The bytes of a sheet are read as that sheet.
pub there : (s : SheetParts) → WithinSheet s → read_sheet (parts_bytes s) ≡ some_sheet s
there s w = ap read_sheet (sym (append-nil (parts_bytes s))) ∙ all_there most_records s [] refl w.recorded ∙ simp w.allowed

-- A field that is not allowed; bytes after the total.
pub unfit_there : (b : List ℕ) (f : ℕ) → Unfit b f → read_sheet b ≡ no_sheet f
unfit_there _ _ (Unfit.field s b w h) = all_there most_records s b refl w ∙ simp h
unfit_there _ _ (Unfit.after s x b w) =
    all_there most_records s (x ∷ b) refl w.recorded ∙ simp (w.allowed, ne_eqb (suc (length b)) 0 (omega arith))

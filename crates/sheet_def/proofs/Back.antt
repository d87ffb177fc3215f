-- A sheet read and written again from its parts: the bytes. What is refused.
use mathlib.Core.Path.{◌≡◌, refl, sym, ap, ◌∙◌, subst}
use mathlib.Core.Bool.{true}
use mathlib.Core.List.{List, [], ◌∷◌, ◌++◌, append_assoc, append-nil}
use Prim.Native.Nat.{ℕ, zero, suc, ◌≤◌, ◌<◌, ◌^◌}
use native.Mathlib.Omega.{arith}
use lib.ListN.{length, drop, length-append}
use Rattle.num_bytes.specs.Bytes.{all_bytes}
use Rattle.num_bytes.proofs.Digits.{bytes_drop}
use Rattle.num_bytes.proofs.Tests.{and_both}
use Rattle.plant_def.specs.Limits.{max_streams}
use Rattle.plant_def.specs.Files.{most_records}
use Rattle.sheet_def.specs.declared.Entry.{Entry}
use Rattle.sheet_def.specs.Sheets.{record_of, records_of, total_bytes, SheetParts, parts_bytes}
use Rattle.sheet_def.specs.Kept.{SheetRecord, Listed, Ended, Refused, no_sheet, some_sheet, fields_fit, record_at, on_record, sheet_with, records_from, read_sheet, fits, all_fit, kind_fits, WithinSheet}
use Rattle.sheet_def.proofs.Records.{EndedAs, Meaning, record_means}

-- A refusal is no sheet.
pub not_both : (f : ℕ) (p : SheetParts) → no_sheet f ≡ some_sheet p → ⊥
not_both f p e = let z : ◌≡◌ {A = ℕ} 0 1 = cc in omega arith

-- The streams that the rest of the bytes lists.
record Lists (done : List Entry) (s : List ℕ) (p : SheetParts) : Type 0 where
  more : List Entry
  streams : p.streams ≡ done ++ more
  bytes : s ≡ records_of more ++ total_bytes p.total
  flows : all_fit more ≡ true
  kind : kind_fits p.total.kind p.total.office ≡ true
  number : p.total.sheet < 256 ^ 4
  cost : p.total.cost < 256 ^ 8
  allowed : fields_fit p.total ≡ true

rest_back : (l : ℕ) (done : List Entry) (s : List ℕ) (p : SheetParts) → all_bytes s ≡ true → records_from l done s ≡ some_sheet p → Lists done s p
rest_back zero done s p a e = absurd (not_both 13 p e)
rest_back (suc l) done s p a e =
    go (record_at (length done) s) (record_means (length done) s) e (λ x m. rest_back l (done ++ (x ∷ [])) (drop m s) p (bytes_drop m s a))
  where
    go : (h : SheetRecord) → Meaning (length done) s h → on_record h (λ x m. records_from l (done ++ (x ∷ [])) (drop m s)) (sheet_with done) no_sheet ≡ some_sheet p
        → ((x : Entry) (m : ℕ) → records_from l (done ++ (x ∷ [])) (drop m s) ≡ some_sheet p → Lists (done ++ (x ∷ [])) (drop m s) p) → Lists done s p
    go (Refused f) h e ih = absurd (not_both f p e)
    go (Ended t) h e ih =
        let d : done ++ [] ≡ done = append-nil done in
        let g : record { streams = done; total = t } ≡ p = cc in
        let total : t ≡ p.total = ap (λ (q : SheetParts). q.total) g in
        let k : EndedAs s p.total = subst (EndedAs s) total h in
        record {
          more = [];
          streams = sym (d ∙ ap (λ (q : SheetParts). q.streams) g);
          bytes = k.bytes a;
          flows = refl;
          kind = k.kind;
          number = k.number a;
          cost = k.cost a;
          allowed = k.allowed;
        }
    go (Listed x m) h e ih =
        let r = ih x m e in
        let es = r.more in
        let b = record_of x.class x.flow in
        let d : (done ++ (x ∷ [])) ++ es ≡ done ++ x ∷ es = append_assoc done (x ∷ []) es in
        record {
          more = x ∷ es;
          streams = r.streams ∙ d;
          bytes = h.bytes a ∙ ap (λ (t : List ℕ). b ++ t) r.bytes ∙ sym (append_assoc b (records_of es) (total_bytes p.total));
          flows = and_both (fits x.class x.flow) (all_fit es) (h.held a) r.flows;
          kind = r.kind;
          number = r.number;
          cost = r.cost;
          allowed = r.allowed;
        }

-- No more streams are listed than there may be.
rest_few : (l : ℕ) (done : List Entry) (s : List ℕ) (p : SheetParts) → length done ≤ max_streams → records_from l done s ≡ some_sheet p → length p.streams ≤ max_streams
rest_few zero done s p f e = absurd (not_both 13 p e)
rest_few (suc l) done s p f e =
    go (record_at (length done) s) (record_means (length done) s) e (λ x m g. rest_few l (done ++ (x ∷ [])) (drop m s) p g)
  where
    go : (h : SheetRecord) → Meaning (length done) s h → on_record h (λ x m. records_from l (done ++ (x ∷ [])) (drop m s)) (sheet_with done) no_sheet ≡ some_sheet p
        → ((x : Entry) (m : ℕ) → length (done ++ (x ∷ [])) ≤ max_streams → records_from l (done ++ (x ∷ [])) (drop m s) ≡ some_sheet p → length p.streams ≤ max_streams)
        → length p.streams ≤ max_streams
    go (Refused g) h e ih = absurd (not_both g p e)
    go (Ended t) h e ih =
        let g : record { streams = done; total = t } ≡ p = cc in
        subst (λ (q : SheetParts). length q.streams ≤ max_streams) g f
    go (Listed x m) h e ih = let room = h.room in ih x m (omega (arith, length-append done (x ∷ []))) e

-- A sheet that is read has no more streams than a plant may have.
pub few_read : (b : List ℕ) (s : SheetParts) → read_sheet b ≡ some_sheet s → length s.streams ≤ max_streams
few_read b s e = rest_few most_records [] b s (omega arith) e

-- (At any fuel: a numeral here would be unfolded.)
pub all_back : (l : ℕ) (b : List ℕ) (s : SheetParts) → all_bytes b ≡ true → records_from l [] b ≡ some_sheet s → (parts_bytes s ≡ b) × WithinSheet s
all_back l b s a e =
    let r = rest_back l [] b s a e in
    let same = r.streams in (
      ap (λ (es : List Entry). records_of es ++ total_bytes s.total) same ∙ sym r.bytes,
      record {
        recorded = record {
          few = rest_few l [] b s (omega arith) e;
          flows = rw same r.flows;
          kind = r.kind;
          number = r.number;
          cost = r.cost;
        };
        allowed = r.allowed;
      },
    )

-- What is refused, at any fuel.
pub rest_refused : (l : ℕ) (done : List Entry) (s : List ℕ) (f : ℕ) → records_from l done s ≡ no_sheet f → (13 ≤ f) × (f ≤ 15)
rest_refused zero done s f e = let g : 13 ≡ f = cc in (omega arith, omega arith)
rest_refused (suc l) done s f e =
    go (record_at (length done) s) (record_means (length done) s) e (λ x m. rest_refused l (done ++ (x ∷ [])) (drop m s) f)
  where
    go : (h : SheetRecord) → Meaning (length done) s h → on_record h (λ x m. records_from l (done ++ (x ∷ [])) (drop m s)) (sheet_with done) no_sheet ≡ no_sheet f
        → ((x : Entry) (m : ℕ) → records_from l (done ++ (x ∷ [])) (drop m s) ≡ no_sheet f → (13 ≤ f) × (f ≤ 15)) → (13 ≤ f) × (f ≤ 15)
    go (Refused g) h e ih = let d : g ≡ f = cc in (omega (arith, h.0), omega (arith, h.1))
    go (Ended t) h e ih = absurd (not_both f (record { streams = done; total = t }) (sym e))
    go (Listed x m) h e ih = ih x m e

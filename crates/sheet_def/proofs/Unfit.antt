-- Why a kept sheet is refused. Writing and reading undo each other.
use mathlib.Core.Path.{◌≡◌, refl, sym, ap, ◌∙◌, subst}
use mathlib.Core.Bool.{true, false, ◌||◌}
use mathlib.Core.Logic.{◌⊎◌, inl, inr, ⊎_elim}
use mathlib.Core.List.{List, [], ◌∷◌, ◌++◌, append_assoc, append-nil}
use Prim.Native.Nat.{ℕ, zero, suc, ◌≤◌, ◌<◌, ◌^◌}
use native.Mathlib.Omega.{arith}
use lib.Dec.{eqb, ltb, leb}
use lib.ListN.{length, drop, length-append, length-drop}
use borrow.Author.Tests.{ltb-false, eqb-true, eqb-false}
use Rattle.num_bytes.specs.Bytes.{all_bytes}
use Rattle.num_bytes.proofs.Digits.{bytes_drop}
use Rattle.num_bytes.proofs.Tests.{by_cases, picked, and_both}
use Rattle.plant_def.specs.Limits.{max_streams}
use Rattle.plant_def.specs.Files.{most_records}
use Rattle.flow_def.specs.declared.Class.TheVariants.{Adjusted, AsRead, Given}
use Rattle.sheet_def.specs.declared.Entry.{Entry}
use Rattle.sheet_def.specs.declared.Total.{Total}
use Rattle.sheet_def.specs.Totals.{total_kind, plain_kind, stream_size, total_size, plain_size}
use Rattle.sheet_def.specs.Sheets.{adjusted_kind, as_read_kind, given_kind, withheld_kind, record_of, records_of, total_bytes, parts_bytes}
use Rattle.sheet_def.specs.Kept.{SheetRecord, Listed, Ended, Refused, no_sheet, shown_in, blank, stream_record, total_in, plain_in, fields_fit, total_record, kind_record, record_at}
use Rattle.sheet_def.specs.Kept.{on_record, sheet_with, records_from, fits, all_fit, kind_fits, Recorded, Unfit, Reopening}
use Rattle.sheet_def.proofs.Records.{Meaning, record_means, Again, plain_again, total_again}
use Rattle.sheet_def.proofs.There.{there, unfit_there}
use Rattle.sheet_def.proofs.Back.{not_both, all_back, rest_refused}

-- A total that is there whole, with a field that is not allowed or bytes after it.
data Judged (t : Total) (r : List ℕ) : ℕ → Type 0 where
  disallowed : fields_fit t ≡ false → Judged t r 14
  followed : fields_fit t ≡ true → 1 ≤ length r → Judged t r 15

record UnfitAt (s : List ℕ) (f : ℕ) : Type 0 where
  total : Total
  rest : List ℕ
  bytes : s ≡ total_bytes total ++ rest
  kind : kind_fits total.kind total.office ≡ true
  number : total.sheet < 256 ^ 4
  cost : total.cost < 256 ^ 8
  judged : Judged total rest f

-- What stands where a record is due: a refusal is 13, or of a total that is there whole.
abbrev Why : List ℕ → SheetRecord → Type 0
Why s (Listed e m) = Unit
Why s (Ended t) = Unit
Why s (Refused f) = (f ≡ 13) ⊎ UnfitAt s f

stream_why : (c size : ℕ) (s : List ℕ) (e : Entry) → Why s (stream_record size e c s)
stream_why c size s e = picked (Why s) (leb max_streams c || ltb (length s) size) (Refused 13) (Listed e size) (λ t. inl refl) (λ t. tt)

module _ (size : ℕ) (t : Total) (s : List ℕ) (fit : kind_fits t.kind t.office ≡ true) (again : size ≤ length s → Again size s t) where
  at : (f : ℕ) → size ≤ length s → Judged t (drop size s) f → UnfitAt s f
  at f l j = record {
    total = t;
    rest = drop size s;
    bytes = (again l).bytes;
    kind = fit;
    number = (again l).number;
    cost = (again l).cost;
    judged = j;
  }

  end_why : Why s (total_record size t s)
  end_why = by_cases (ltb (length s) size) (λ u. rw u (inl refl)) (λ u. by_cases (fields_fit t) (allowed u) (λ v. rw (u, v) (inr (at 14 (ltb-false (length s) size u) (Judged.disallowed v)))))
    where
      allowed : ltb (length s) size ≡ false → fields_fit t ≡ true → Why s (total_record size t s)
      allowed u v =
          let l = ltb-false (length s) size u in
          by_cases (eqb (length s) size) (λ w. rw (u, v, w) tt)
          (λ w. let ne = eqb-false (length s) size w in
          let more : 1 ≤ length (drop size s) = omega (arith, length-drop size s) in
          rw (u, v, w) (inr (at 15 l (Judged.followed v more))))

record_why : (c : ℕ) (s : List ℕ) → all_bytes s ≡ true → Why s (record_at c s)
record_why c [] a = inl refl
record_why c (k ∷ b) a =
    picked M (eqb (suc (length b)) 0) (Refused 13) (kind_record c k (k ∷ b)) (λ t. inl refl)
    (λ t. picked M (eqb k adjusted_kind) _ _ (λ u. stream_why c stream_size (k ∷ b) (shown_in Adjusted (k ∷ b)))
    (λ t. picked M (eqb k as_read_kind) _ _ (λ u. stream_why c stream_size (k ∷ b) (shown_in AsRead (k ∷ b)))
    (λ t. picked M (eqb k given_kind) _ _ (λ u. stream_why c stream_size (k ∷ b) (shown_in Given (k ∷ b)))
    (λ t. picked M (eqb k withheld_kind) _ _ (λ u. stream_why c 1 (k ∷ b) blank)
    (λ t. picked M (eqb k total_kind) _ _ (λ u. total (eqb-true k total_kind u))
    (λ t. picked M (eqb k plain_kind) _ _ (λ u. plain (eqb-true k plain_kind u)) (λ t. inl refl)))))))
  where
    M : SheetRecord → Type 0
    M = Why (k ∷ b)

    total : k ≡ total_kind → M (total_record total_size (total_in (k ∷ b)) (k ∷ b))
    total e = rw e (end_why total_size (total_in (total_kind ∷ b)) (total_kind ∷ b) refl (total_again b (subst (λ (j : ℕ). all_bytes (j ∷ b) ≡ true) e a)))

    plain : k ≡ plain_kind → M (total_record plain_size (plain_in (k ∷ b)) (k ∷ b))
    plain e = rw e (end_why plain_size (plain_in (plain_kind ∷ b)) (plain_kind ∷ b) refl (plain_again b (subst (λ (j : ℕ). all_bytes (j ∷ b) ≡ true) e a)))

-- A refusal behind the records of entries.
record Behind (done : List Entry) (s : List ℕ) (f : ℕ) : Type 0 where
  more : List Entry
  rest : List ℕ
  few : length (done ++ more) ≤ max_streams
  flows : all_fit more ≡ true
  bytes : s ≡ records_of more ++ rest
  unfit : UnfitAt rest f

rest_others : (l : ℕ) (done : List Entry) (s : List ℕ) (f : ℕ) → length done ≤ max_streams → all_bytes s ≡ true → records_from l done s ≡ no_sheet f → (f ≡ 13) ⊎ Behind done s f
rest_others zero done s f h a e = let g : f ≡ 13 = cc in inl g
rest_others (suc l) done s f h a e =
    go (record_at (length done) s) (record_means (length done) s) (record_why (length done) s a) e (λ x m k. rest_others l (done ++ (x ∷ [])) (drop m s) f k (bytes_drop m s a))
  where
    go : (r : SheetRecord) → Meaning (length done) s r → Why s r
        → on_record r (λ x m. records_from l (done ++ (x ∷ [])) (drop m s)) (sheet_with done) no_sheet ≡ no_sheet f
        → ((x : Entry) (m : ℕ) → length (done ++ (x ∷ [])) ≤ max_streams → records_from l (done ++ (x ∷ [])) (drop m s) ≡ no_sheet f → (f ≡ 13) ⊎ Behind (done ++ (x ∷ [])) (drop m s) f)
        → (f ≡ 13) ⊎ Behind done s f
    go (Refused g) d w e ih =
        let same : g ≡ f = cc in
        ⊎_elim (λ z. inl (sym same ∙ z))
        (λ z. inr (record { more = []; rest = s; few = rw (append-nil done) h; flows = refl; bytes = refl; unfit = subst (UnfitAt s) same z }))
        w
    go (Ended t) d w e ih = absurd (not_both f (record { streams = done; total = t }) (sym e))
    go (Listed x m) d w e ih =
        let own = record_of x.class x.flow in
        let room = d.room in
        ⊎_elim (λ z. inl z)
        (λ (z : Behind (done ++ (x ∷ [])) (drop m s) f).
        inr (record {
          more = x ∷ z.more;
          rest = z.rest;
          few = subst (λ (es : List Entry). length es ≤ max_streams) (append_assoc done (x ∷ []) z.more) z.few;
          flows = and_both (fits x.class x.flow) (all_fit z.more) (d.held a) z.flows;
          bytes = d.bytes a ∙ ap (λ (t : List ℕ). own ++ t) z.bytes ∙ sym (append_assoc own (records_of z.more) z.rest);
          unfit = z.unfit;
        }))
        (ih x m (omega (arith, length-append done (x ∷ []))) e)

-- A sheet of which its total is amiss.
whole_unfit : (es : List Entry) (t : Total) (r : List ℕ) (f : ℕ) → Recorded (record { streams = es; total = t }) → Judged t r f
    → Unfit (parts_bytes (record { streams = es; total = t }) ++ r) f
whole_unfit es t r _ w (Judged.disallowed h) = Unfit.field (record { streams = es; total = t }) r w h
whole_unfit es t [] _ w (Judged.followed h l) = absurd (omega arith)
whole_unfit es t (x ∷ r) _ w (Judged.followed h l) = Unfit.after (record { streams = es; total = t }) x r (record { recorded = w; allowed = h })

-- (At any fuel: a numeral here would be unfolded.)
all_others : (l : ℕ) (b : List ℕ) (f : ℕ) → all_bytes b ≡ true → records_from l [] b ≡ no_sheet f → (f ≡ 13) ⊎ Unfit b f
all_others l b f a e =
    ⊎_elim (λ z. inl z)
    (λ (z : Behind [] b f).
    let u = z.unfit in
    let es = z.more in
    let t = u.total in
    let whole : b ≡ parts_bytes (record { streams = es; total = t }) ++ u.rest =
    z.bytes ∙ ap (λ (y : List ℕ). records_of es ++ y) u.bytes ∙ sym (append_assoc (records_of es) (total_bytes t) u.rest) in
    inr (subst (λ (y : List ℕ). Unfit y f) (sym whole)
    (whole_unfit es t u.rest f (record { few = z.few; flows = z.flows; kind = u.kind; number = u.number; cost = u.cost }) u.judged)))
    (rest_others l [] b f (omega arith) a e)

-- Writing and reading undo each other, and what is refused.
pub reopening : Reopening
reopening = record {
  there = there;
  back = all_back most_records;
  refused = rest_refused most_records [];
  unfit = unfit_there;
  others = all_others most_records;
}

-- The records of a kept sheet: what is known of the bytes where one is read.
use mathlib.Core.Path.{◌≡◌, refl, sym, ap, ◌∙◌}
use mathlib.Core.Bool.{Bool, true, false, not, ◌||◌}
use mathlib.Core.List.{List, [], ◌∷◌, ◌++◌, append-nil}
use Prim.Native.Nat.{ℕ, suc, ◌<◌, ◌≤◌, ◌^◌}
use native.Mathlib.Omega.{arith}
use lib.Dec.{eqb, ltb, leb}
use lib.ListN.{length, get_or, take, drop, take-append-drop, length-drop, drop_of_length-le}
use lib.Seq.{drop-drop, get_or-drop}
use borrow.Author.Tests.{ltb-false, leb-false, eqb-true, eqb-false, not-false}
use Rattle.num_bytes.specs.Choice.{refuse_if, first_of}
use Rattle.num_bytes.specs.Bytes.{be, put_be, signed, raw, holds, all_bytes}
use Rattle.num_bytes.proofs.Tests.{picked, or_none_left, or_none_right, refuse_none, first_none_left, first_none_right}
use Rattle.num_bytes.proofs.Digits.{byte_first, put_be_lem, be_fits}
use Rattle.num_bytes.proofs.Complement.{raw_signed, signed_held}
use Rattle.plant_def.specs.Limits.{max_streams}
use Rattle.flow_def.specs.declared.Class.{Class}
use Rattle.flow_def.specs.declared.Class.TheVariants.{Adjusted, AsRead, Given}
use Rattle.sheet_def.specs.declared.Entry.{Entry}
use Rattle.sheet_def.specs.declared.Total.{Total}
use Rattle.sheet_def.specs.Totals.{total_kind, plain_kind, stream_size, body_size, total_size, plain_size}
use Rattle.sheet_def.specs.Sheets.{adjusted_kind, as_read_kind, given_kind, withheld_kind, record_of, body_of, total_bytes}
use Rattle.sheet_def.specs.Kept.{SheetRecord, Listed, Ended, Refused, shown_in, blank, stream_record, total_in, plain_in}
use Rattle.sheet_def.specs.Kept.{fields_fit, total_fault, after_fault, end_fault, total_record, kind_record, record_at, fits, kind_fits}

-- An entry listed by a record of m bytes at the front of s, after c streams.
pub record ListedAs (c : ℕ) (s : List ℕ) (e : Entry) (m : ℕ) : Type 0 where
  pub room : c < max_streams
  pub whole : m ≤ length s
  pub held : all_bytes s ≡ true → fits e.class e.flow ≡ true
  pub bytes : all_bytes s ≡ true → s ≡ record_of e.class e.flow ++ drop m s

-- A total that ends the sheet.
pub record EndedAs (s : List ℕ) (t : Total) : Type 0 where
  pub allowed : fields_fit t ≡ true
  pub kind : kind_fits t.kind t.office ≡ true
  pub bytes : all_bytes s ≡ true → s ≡ total_bytes t
  pub number : all_bytes s ≡ true → t.sheet < 256 ^ 4
  pub cost : all_bytes s ≡ true → t.cost < 256 ^ 8

-- What each record says: the stream that it lists, the total, or a number that is a refusal.
abbrev pub Meaning : ℕ → List ℕ → SheetRecord → Type 0
Meaning c s (Listed e m) = ListedAs c s e m
Meaning c s (Ended t) = EndedAs s t
Meaning c s (Refused f) = (13 ≤ f) × (f ≤ 15)

-- A stream record.
stream_means : (c size : ℕ) (s : List ℕ) (e : Entry)
    → (size ≤ length s → all_bytes s ≡ true → (fits e.class e.flow ≡ true) × (s ≡ record_of e.class e.flow ++ drop size s))
    → Meaning c s (stream_record size e c s)
stream_means c size s e h =
    picked (Meaning c s) (leb max_streams c || ltb (length s) size) (Refused 13) (Listed e size) (λ t. (omega arith, omega arith))
    (λ t. let l = ltb-false (length s) size (or_none_right (leb max_streams c) (ltb (length s) size) t) in
    record {
      room = leb-false max_streams c (or_none_left (leb max_streams c) (ltb (length s) size) t);
      whole = l;
      held = λ a. (h l a).0;
      bytes = λ a. (h l a).1;
    })

-- A number behind the kind, written again.
number_again : (b : List ℕ) → all_bytes b ≡ true → 8 ≤ length b → b ≡ put_be 8 (raw 8 (signed 8 (be 0 8 b))) ++ drop 8 b
number_again b a h =
    let z : put_be 8 (raw 8 (signed 8 (be 0 8 b))) ≡ take 8 b = ap (put_be 8) (raw_signed 8 (be 0 8 b) (be_fits 0 8 b a h)) ∙ put_be_lem 0 8 b a h in
    sym (ap (λ (l : List ℕ). l ++ drop 8 b) z ∙ take-append-drop 8 b)

number_held : (b : List ℕ) → all_bytes b ≡ true → 8 ≤ length b → holds 8 (signed 8 (be 0 8 b)) ≡ true
number_held b a h = signed_held 8 (be 0 8 b) (be_fits 0 8 b a h)

shown_again : (x : ℕ) (k : Class) (b : List ℕ) → record_of k (signed 8 (be 0 8 b)) ≡ x ∷ put_be 8 (raw 8 (signed 8 (be 0 8 b)))
    → fits k (signed 8 (be 0 8 b)) ≡ holds 8 (signed 8 (be 0 8 b)) → stream_size ≤ length (x ∷ b) → all_bytes (x ∷ b) ≡ true
    → (fits k (signed 8 (be 0 8 b)) ≡ true) × (x ∷ b ≡ record_of k (signed 8 (be 0 8 b)) ++ drop stream_size (x ∷ b))
shown_again x k b e f h a =
    let bytes = (byte_first x b a).1 in
    (f ∙ number_held b bytes (omega arith), ap (λ (l : List ℕ). x ∷ l) (number_again b bytes (omega arith)) ∙ ap (λ (l : List ℕ). l ++ drop 8 b) (sym e))

-- What a total ends in, written again.
two_first : (r : List ℕ) → 2 ≤ length r → r ≡ get_or r 0 0 ∷ get_or r 1 0 ∷ drop 2 r
two_first [] h = absurd (omega arith)
two_first (x ∷ []) h = absurd (omega arith)
two_first (x ∷ y ∷ r) h = refl

body_again : (b : List ℕ) → all_bytes b ≡ true → body_size ≤ length b → b ≡ body_of (be 0 4 b) (be 4 8 b) (get_or b 12 0) (get_or b 13 0) ++ drop body_size b
body_again b a h =
    let n : put_be 4 (be 0 4 b) ≡ take 4 b = put_be_lem 0 4 b a (omega arith) in
    let c : put_be 8 (be 4 8 b) ≡ take 8 (drop 4 b) = put_be_lem 4 8 b a (omega arith) in
    let two : drop 12 b ≡ get_or b 12 0 ∷ get_or b 13 0 ∷ drop body_size b =
    two_first (drop 12 b) (omega (arith, length-drop 12 b)) ∙ (λ i. get_or-drop 12 b 0 0 i ∷ get_or-drop 12 b 1 0 i ∷ drop-drop 2 12 b i) in
    let joined : take 4 b ++ (take 8 (drop 4 b) ++ drop 12 b) ≡ b =
    ap (λ (l : List ℕ). take 4 b ++ (take 8 (drop 4 b) ++ l)) (sym (drop-drop 8 4 b))
    ∙ ap (λ (l : List ℕ). take 4 b ++ l) (take-append-drop 8 (drop 4 b))
    ∙ take-append-drop 4 b in
    sym ((λ i. n i ++ (c i ++ sym two i)) ∙ joined)

-- Of three refusals, each with its test, the first that applies.
three : (a b c : Bool) → (first_of (refuse_if a 13) (first_of (refuse_if b 14) (refuse_if c 15)) ≡ 0 → ⊥)
    → (13 ≤ first_of (refuse_if a 13) (first_of (refuse_if b 14) (refuse_if c 15))) × (first_of (refuse_if a 13) (first_of (refuse_if b 14) (refuse_if c 15)) ≤ 15)
three true b c h = (omega arith, omega arith)
three false true c h = (omega arith, omega arith)
three false false true h = (omega arith, omega arith)
three false false false h = absurd (h refl)

-- What is known of the bytes of a total of this size, where they are whole.
pub record Again (size : ℕ) (s : List ℕ) (t : Total) : Type 0 where
  pub bytes : s ≡ total_bytes t ++ drop size s
  pub number : t.sheet < 256 ^ 4
  pub cost : t.cost < 256 ^ 8

-- A plain total, read and written again, is the same bytes.
pub plain_again : (b : List ℕ) → all_bytes (plain_kind ∷ b) ≡ true → plain_size ≤ length (plain_kind ∷ b) → Again plain_size (plain_kind ∷ b) (plain_in (plain_kind ∷ b))
plain_again b a l =
    let bytes = (byte_first plain_kind b a).1 in
    record {
      bytes = ap (λ (r : List ℕ). plain_kind ∷ r) (body_again b bytes (omega arith));
      number = be_fits 0 4 b bytes (omega arith);
      cost = be_fits 4 8 b bytes (omega arith);
    }

-- A total with its office, read and written again, is the same bytes.
pub total_again : (b : List ℕ) → all_bytes (total_kind ∷ b) ≡ true → total_size ≤ length (total_kind ∷ b) → Again total_size (total_kind ∷ b) (total_in (total_kind ∷ b))
total_again [] a l = absurd (omega arith)
total_again (k ∷ b) a l =
    let bytes = (byte_first k b (byte_first total_kind (k ∷ b) a).1).1 in
    record {
      bytes = ap (λ (r : List ℕ). total_kind ∷ k ∷ r) (body_again b bytes (omega arith));
      number = be_fits 0 4 b bytes (omega arith);
      cost = be_fits 4 8 b bytes (omega arith);
    }

-- A total that is there whole, or its refusal.
module _ (size : ℕ) (t : Total) (s : List ℕ) (fit : kind_fits t.kind t.office ≡ true) (again : all_bytes s ≡ true → size ≤ length s → Again size s t) where
  ended_means : end_fault size t s ≡ 0 → EndedAs s t
  ended_means e =
      let after = first_none_right (refuse_if (ltb (length s) size) 13) _ e in
      let u = eqb (length s) size in
      let l : length s ≡ size = eqb-true (length s) size (not-false u (refuse_none (not u) 14 (first_none_right (total_fault t) (after_fault size s) after))) in
      record {
        allowed = not-false (fields_fit t) (refuse_none _ 13 (first_none_left (total_fault t) (after_fault size s) after));
        kind = fit;
        bytes = λ a. (again a (omega arith)).bytes ∙ ap (λ (r : List ℕ). total_bytes t ++ r) (none_after s l) ∙ append-nil (total_bytes t);
        number = λ a. (again a (omega arith)).number;
        cost = λ a. (again a (omega arith)).cost;
      }
    where
      none_after : (r : List ℕ) → length r ≡ size → drop size r ≡ []
      none_after r l = drop_of_length-le r {i = size} (omega arith)

  end_means : (c : ℕ) → Meaning c s (total_record size t s)
  end_means c =
      picked (Meaning c s) (eqb (end_fault size t s) 0) (Ended t) (Refused (end_fault size t s))
      (λ z. ended_means (eqb-true (end_fault size t s) 0 z))
      (λ z. three (ltb (length s) size) (not (fields_fit t)) (not (eqb (length s) size)) (eqb-false (end_fault size t s) 0 z))

total_means : (c : ℕ) (b : List ℕ) → Meaning c (total_kind ∷ b) (total_record total_size (total_in (total_kind ∷ b)) (total_kind ∷ b))
total_means c b = end_means total_size (total_in (total_kind ∷ b)) (total_kind ∷ b) refl (total_again b) c

plain_means : (c : ℕ) (b : List ℕ) → Meaning c (plain_kind ∷ b) (total_record plain_size (plain_in (plain_kind ∷ b)) (plain_kind ∷ b))
plain_means c b = end_means plain_size (plain_in (plain_kind ∷ b)) (plain_kind ∷ b) refl (plain_again b) c

-- What is known of the record that stands where one is due.
pub record_means : (c : ℕ) (s : List ℕ) → Meaning c s (record_at c s)
record_means c [] = (omega arith, omega arith)
record_means c (k ∷ b) =
    picked M (eqb (suc (length b)) 0) (Refused 13) (kind_record c k (k ∷ b)) (λ t. refused)
    (λ t. picked M (eqb k adjusted_kind) _ _ (λ u. rw (eqb-true k adjusted_kind u)
    (stream_means c stream_size (adjusted_kind ∷ b) (shown_in Adjusted (adjusted_kind ∷ b)) (shown_again adjusted_kind Adjusted b refl refl)))
    (λ t. picked M (eqb k as_read_kind) _ _ (λ u. rw (eqb-true k as_read_kind u) (stream_means c stream_size (as_read_kind ∷ b) (shown_in AsRead (as_read_kind ∷ b)) (shown_again as_read_kind AsRead b refl refl)))
    (λ t. picked M (eqb k given_kind) _ _ (λ u. rw (eqb-true k given_kind u) (stream_means c stream_size (given_kind ∷ b) (shown_in Given (given_kind ∷ b)) (shown_again given_kind Given b refl refl)))
    (λ t. picked M (eqb k withheld_kind) _ _ (λ u. rw (eqb-true k withheld_kind u) (stream_means c 1 (withheld_kind ∷ b) blank (λ l a. (refl, refl))))
    (λ t. picked M (eqb k total_kind) _ _ (λ u. rw (eqb-true k total_kind u) (total_means c b))
    (λ t. picked M (eqb k plain_kind) _ _ (λ u. rw (eqb-true k plain_kind u) (plain_means c b)) (λ t. refused)))))))
  where
    M : SheetRecord → Type 0
    M = Meaning c (k ∷ b)

    refused : (13 ≤ 13) × (13 ≤ 15)
    refused = (omega arith, omega arith)

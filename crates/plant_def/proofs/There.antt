-- A plant file written from its parts and read again: the parts.
use mathlib.Core.Path.{◌≡◌, refl, sym, ap, ◌∙◌, subst}
use mathlib.Core.List.{List, [], ◌∷◌, ◌++◌, append_assoc, append-nil}
use mathlib.Core.Bool.{true, false, not, ◌&&◌, ◌||◌}
use lib.IntN.{ℤ, pos, nat_abs}
use Prim.Native.Nat.{ℕ, zero, suc, ◌+◌, ◌-◌, ◌^◌, ◌<◌, ◌≤◌}
use native.Mathlib.Omega.{arith}
use lib.Dec.{eqb, ltb}
use lib.ListN.{length, drop, length-append}
use lib.Seq.{drop-append_seam}
use borrow.Author.Tests.{lt-ltb, le-ltb, lt-leb, eq-eqb, ne_eqb, eqb-true, ltb-true, not-true}
use Rattle.num_bytes.specs.Bytes.{be, put_be, signed, raw, holds}
use Rattle.num_bytes.proofs.Tests.{by_cases, and_left, and_right, and_both, first_none_left, first_none_right}
use Rattle.num_bytes.proofs.Digits.{be_put}
use Rattle.num_bytes.proofs.Complement.{held_back, held_fits, small_held, zero_size}
use Rattle.plant_def.specs.declared.Stream.{Stream}
use Rattle.plant_def.specs.Results.{Record, Listed, End, Site, Units}
use Rattle.plant_def.specs.Limits.{max_streams, site_kind, metered_kind, unmetered_kind, end_kind, ranged_kind, site_body, metered_body, ranged_body, unmetered_body}
use Rattle.plant_def.specs.Within.{WithinStream}
use Rattle.plant_def.specs.Refusals.{recorded}
use Rattle.plant_def.specs.Plants.{Plant, units_fault, stream_fault, first_fault, plant_fault, plain_one, plain}
use Rattle.plant_def.specs.Files.{bad, got, site_at, on_site, metered_in, ranged_in, unmetered_in, checked, stream_record, kind_record, record_at}
use Rattle.plant_def.specs.Files.{on_record, with_stream, records_by, most_records, read_plant, meter_bytes, range_bytes, stream_bytes, streams_bytes, plant_bytes}
use Rattle.plant_def.proofs.Records.{metered_bytes, ranged_bytes, unmetered_bytes}
use Rattle.plant_def.proofs.Limited.{within_stream, units_good, few_parts, streams_good}

-- A signed field written and read again, whatever follows it.
signed_there : (z : ℤ) (r : List ℕ) → holds 4 z ≡ true → signed 4 (be 0 4 (put_be 4 (raw 4 z) ++ r)) ≡ z
signed_there z r h = ap (signed 4) (be_put 4 (raw 4 z) r (held_fits 4 z h)) ∙ held_back 4 z h

-- What an unmetered stream has not, and a stream without a range.
bare : (x : Stream) → x.metered ≡ false → plain_one x ≡ true → (0 ≡ x.weight) × (pos 0 ≡ x.reading) × (x.ranged ≡ false)
bare x m p =
    let z = eqb (nat_abs x.reading) 0 in
    let q : eqb x.weight 0 && (z && not x.ranged) ≡ true = rw m at (and_left (x.metered || (eqb x.weight 0 && (z && not x.ranged))) _ p) in
    let t = and_right (eqb x.weight 0) (z && not x.ranged) q in (
      sym (eqb-true x.weight 0 (and_left (eqb x.weight 0) (z && not x.ranged) q)),
      zero_size x.reading (eqb-true (nat_abs x.reading) 0 (and_left z (not x.ranged) t)),
      not-true x.ranged (and_right z (not x.ranged) t),
    )

unranged : (x : Stream) → x.ranged ≡ false → plain_one x ≡ true → (pos 0 ≡ x.low) × (pos 0 ≡ x.high)
unranged x q p =
    let l = eqb (nat_abs x.low) 0 in
    let h = eqb (nat_abs x.high) 0 in
    let t : l && h ≡ true = rw q at (and_right (x.metered || (eqb x.weight 0 && (eqb (nat_abs x.reading) 0 && not x.ranged))) _ p) in
    (zero_size x.low (eqb-true (nat_abs x.low) 0 (and_left l h t)), zero_size x.high (eqb-true (nat_abs x.high) 0 (and_right l h t)))

-- What a record holds of a stream.
module _ (x : Stream) (h : recorded x ≡ true) where
  fields : ltb x.weight (256 ^ 2) && (holds 4 x.reading && (holds 4 x.low && holds 4 x.high)) ≡ true
  fields = and_right (plain_one x) _ h

  numbers : holds 4 x.reading && (holds 4 x.low && holds 4 x.high) ≡ true
  numbers = and_right (ltb x.weight (256 ^ 2)) _ fields

  weight_held : x.weight < 256 ^ 2
  weight_held = ltb-true x.weight (256 ^ 2) (and_left (ltb x.weight (256 ^ 2)) _ fields)

  reading_held : holds 4 x.reading ≡ true
  reading_held = and_left (holds 4 x.reading) _ numbers

  low_held : holds 4 x.low ≡ true
  low_held = and_left (holds 4 x.low) (holds 4 x.high) (and_right (holds 4 x.reading) _ numbers)

  high_held : holds 4 x.high ≡ true
  high_held = and_right (holds 4 x.low) (holds 4 x.high) (and_right (holds 4 x.reading) _ numbers)

-- A stream's own bytes, and whatever follows them.
module _ (x : Stream) (r : List ℕ) (m : x.metered ≡ true) (h : recorded x ≡ true) where
  weight_there : (l : List ℕ) → be 0 2 (put_be 2 x.weight ++ l) ≡ x.weight
  weight_there l = be_put 2 x.weight l (weight_held x h)

  reading_there : (l : List ℕ) → signed 4 (be 0 4 (put_be 4 (raw 4 x.reading) ++ l)) ≡ x.reading
  reading_there l = signed_there x.reading l (reading_held x h)

  metered_there : x.ranged ≡ false → plain_one x ≡ true → metered_in (meter_bytes x ++ r) ≡ x
  metered_there q p =
      let none = unranged x q p in
      λ i. record {
        from = x.from;
        to = x.to;
        metered = sym m i;
        weight = weight_there (put_be 4 (raw 4 x.reading) ++ r) i;
        reading = reading_there r i;
        ranged = sym q i;
        low = none.0 i;
        high = none.1 i;
      }

  ranged_there : x.ranged ≡ true → ranged_in ((meter_bytes x ++ range_bytes x) ++ r) ≡ x
  ranged_there q =
      let low_there = signed_there x.low (put_be 4 (raw 4 x.high) ++ r) (low_held x h) in
      let high_there = signed_there x.high r (high_held x h) in
      λ i. record {
        from = x.from;
        to = x.to;
        metered = sym m i;
        weight = weight_there (put_be 4 (raw 4 x.reading) ++ (range_bytes x ++ r)) i;
        reading = reading_there (range_bytes x ++ r) i;
        ranged = sym q i;
        low = low_there i;
        high = high_there i;
      }

unmetered_there : (x : Stream) (r : List ℕ) → x.metered ≡ false → plain_one x ≡ true → unmetered_in (x.from ∷ x.to ∷ r) ≡ x
unmetered_there x r m p =
    let none = bare x m p in
    let ends = unranged x none.2 p in
    λ i. record {
      from = x.from;
      to = x.to;
      metered = sym m i;
      weight = none.0 i;
      reading = none.1 i;
      ranged = sym none.2 i;
      low = ends.0 i;
      high = ends.1 i;
    }

-- A stream record whose bytes are a kind and a body: the stream with its faults.
module _ (n c : ℕ) (x : Stream) (r : List ℕ) (more : c < max_streams) where
  record_there : (k size : ℕ) (b : List ℕ) (y : Stream) → stream_bytes x ≡ k ∷ b → length b ≡ size
      → kind_record n c k (b ++ r) ≡ stream_record size y n c (b ++ r) → y ≡ x → record_at n c (stream_bytes x ++ r) ≡ checked n x (length (stream_bytes x))
  record_there k size b y e l kind same =
      let room : size ≤ length (b ++ r) = omega (arith, length-append b r) in
      let size_is : suc size ≡ length (stream_bytes x) = ap suc (sym l) ∙ ap length (sym e) in
      let due : record_at n c (k ∷ b ++ r) ≡ kind_record n c k (b ++ r) = simp (ne_eqb (suc (length (b ++ r))) 0 (omega arith)) in
      let whole : stream_record size y n c (b ++ r) ≡ checked n y (suc size) = simp (lt-leb max_streams c more, le-ltb (length (b ++ r)) size room) in
      ap (λ (s : List ℕ). record_at n c (s ++ r)) e
      ∙ due
      ∙ kind
      ∙ whole
      ∙ ap (λ (z : Stream). checked n z (suc size)) same
      ∙ ap (checked n x) size_is

  -- The record of a stream is read as that stream, or refused with its fault.
  pub stream_due : recorded x ≡ true → record_at n c (stream_bytes x ++ r) ≡ checked n x (length (stream_bytes x))
  stream_due h =
      let p : plain_one x ≡ true = and_left (plain_one x) _ h in
      by_cases x.metered
      (λ m. by_cases x.ranged
      (λ q. let b = meter_bytes x ++ range_bytes x in
      record_there ranged_kind ranged_body b (ranged_in (b ++ r)) (sym (ranged_bytes x m q)) refl refl (ranged_there x r m h q))
      (λ q. let b = meter_bytes x in
      record_there metered_kind metered_body b (metered_in (b ++ r)) (sym (metered_bytes x m q)) refl refl (metered_there x r m h q p)))
      (λ m. let b = x.from ∷ x.to ∷ [] in
      record_there unmetered_kind unmetered_body b (unmetered_in (b ++ r)) (sym (unmetered_bytes x m)) refl refl (unmetered_there x r m p))

none_held : (z : ℤ) → pos 0 ≡ z → holds 4 z ≡ true
none_held z e = subst (λ (y : ℤ). holds 4 y ≡ true) e refl

-- A record can hold a stream without fault.
stream_recorded : (n : ℕ) (x : Stream) → stream_fault n x ≡ 0 → plain_one x ≡ true → recorded x ≡ true
stream_recorded n x f p = by_cases x.metered metered (λ m. let none = bare x m p in bound (omega (arith, none.0)) (none_held x.reading none.1) (none_there none.2))
  where
    w : WithinStream n x
    w = within_stream n x f

    bound : x.weight < 256 ^ 2 → holds 4 x.reading ≡ true → (holds 4 x.low ≡ true) × (holds 4 x.high ≡ true) → recorded x ≡ true
    bound a b c =
        and_both (plain_one x) _ p
        (and_both (ltb x.weight (256 ^ 2)) _ (lt-ltb x.weight (256 ^ 2) a)
        (and_both (holds 4 x.reading) _ b (and_both (holds 4 x.low) (holds 4 x.high) c.0 c.1)))

    none_there : x.ranged ≡ false → (holds 4 x.low ≡ true) × (holds 4 x.high ≡ true)
    none_there q = let none = unranged x q p in (none_held x.low none.0, none_held x.high none.1)

    range : x.metered ≡ true → x.ranged ≡ true → (holds 4 x.low ≡ true) × (holds 4 x.high ≡ true)
    range m q =
        let l = and_both x.metered x.ranged m q in
        (small_held 4 x.low (omega (arith, w.low_in l)), small_held 4 x.high (omega (arith, w.high_in l)))

    metered : x.metered ≡ true → recorded x ≡ true
    metered m =
        bound (omega (arith, w.light m)) (small_held 4 x.reading (omega (arith, w.within_range m)))
        (by_cases x.ranged (range m) none_there)

stream_there : (n c : ℕ) (x : Stream) (r : List ℕ) → c < max_streams → stream_fault n x ≡ 0 → plain_one x ≡ true
    → record_at n c (stream_bytes x ++ r) ≡ Listed x (length (stream_bytes x))
stream_there n c x r more f p = stream_due n c x r more (stream_recorded n x f p) ∙ simp (eq-eqb (stream_fault n x) 0 f)

end_there : (n c d : ℕ) → d ≡ c → record_at n c (end_kind ∷ d ∷ []) ≡ End
end_there n c d e = simp (eq-eqb d c e)

-- Streams without fault are listed, and the reading goes on behind them.
run : (n : ℕ) (ss done : List Stream) (b : List ℕ) (k l : ℕ) → k ≡ length ss + l → length done + length ss ≤ max_streams → first_fault n ss ≡ 0 → plain ss ≡ true
    → records_by record_at k (record { units = n; streams = done }) (streams_bytes ss ++ b) ≡ records_by record_at l (record { units = n; streams = done ++ ss }) b
run n [] done b k l e h f p =
    let same : k ≡ l = omega arith in
    (λ i. records_by record_at (same i) (record { units = n; streams = sym (append-nil done) i }) b)
run n (x ∷ ss) done b zero l e h f p = absurd (omega arith)
run n (x ∷ ss) done b (suc k) l e h f p =
    let q : Plant = record { units = n; streams = done } in
    let own = stream_bytes x in
    let r = streams_bytes ss ++ b in
    let fx = first_none_left (stream_fault n x) (first_fault n ss) f in
    let px = and_left (plain_one x) (plain ss) p in
    let here : record_at n (length done) (own ++ r) ≡ Listed x (length own) = stream_there n (length done) x r (omega arith) fx px in
    ap (records_by record_at (suc k) q) (append_assoc own (streams_bytes ss) b)
    ∙ ap (λ (h : Record). on_record h (λ y j. records_by record_at k (with_stream q y) (drop j (own ++ r))) (got q) bad) here
    ∙ ap (records_by record_at k (with_stream q x)) (drop-append_seam own r)
    ∙ run n ss (done ++ (x ∷ [])) b k l (omega arith) (omega (arith, length-append done (x ∷ []))) (first_none_right (stream_fault n x) (first_fault n ss) f) (and_right (plain_one x) (plain ss) p)
    ∙ ap (λ (t : List Stream). records_by record_at l (record { units = n; streams = t }) b) (append_assoc done (x ∷ []) ss)

-- (At any fuel that is enough: a numeral here would be unfolded.)
run_all : (l n : ℕ) (ss : List Stream) (b : List ℕ) → l ≡ most_records → length ss ≤ max_streams → first_fault n ss ≡ 0 → plain ss ≡ true
    → records_by record_at l (record { units = n; streams = [] }) (streams_bytes ss ++ b) ≡ records_by record_at (suc (max_streams - length ss)) (record { units = n; streams = ss }) b
run_all l n ss b e h f p =
    run n ss [] b l (suc (max_streams - length ss)) (omega arith) (omega arith) f p

-- A site record is read.
pub site_there : (n : ℕ) (r : List ℕ) → units_fault n ≡ 0 → site_at (site_kind ∷ n ∷ r) ≡ Units n
site_there n r e = simp (e, ne_eqb (suc (suc (length r))) 0 (omega arith), le-ltb (suc (suc (length r))) (suc site_body) (omega arith))

-- What stands behind the records of a plant without fault decides.
pub behind_there : (p : Plant) (b : List ℕ) → plant_fault p ≡ 0 → plain p.streams ≡ true
    → read_plant (site_kind ∷ p.units ∷ streams_bytes p.streams ++ b) ≡ records_by record_at (suc (max_streams - length p.streams)) p b
behind_there p b f q =
    let n = p.units in
    let ss = p.streams in
    let s = site_kind ∷ n ∷ streams_bytes ss ++ b in
    let here : site_at s ≡ Units n = site_there n (streams_bytes ss ++ b) (units_good n (length ss) ss f) in
    ap (λ (x : Site). on_site x (λ m. records_by record_at most_records (record { units = m; streams = [] }) (drop (suc site_body) s)) bad) here
    ∙ run_all most_records n ss b refl (few_parts n (length ss) ss f) (streams_good n (length ss) ss f) q

-- The file of a plant without fault is read as that plant.
pub there : (p : Plant) → plant_fault p ≡ 0 → plain p.streams ≡ true → read_plant (plant_bytes p) ≡ got p
there p f q =
    let c = length p.streams in
    let l = max_streams - c in
    behind_there p (end_kind ∷ c ∷ []) f q
    ∙ ap (λ (r : Record). on_record r (λ x m. records_by record_at l (with_stream p x) (drop m (end_kind ∷ c ∷ []))) (got p) bad) (end_there p.units c c refl)

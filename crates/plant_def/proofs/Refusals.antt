-- The numbers with which a plant file is refused; no fault of a file or of a plant's parts is 19.
use mathlib.Core.Path.{◌≡◌, refl, sym, ap, ◌∙◌, subst}
use mathlib.Core.Bool.{Bool, true, false, not, ◌||◌, ◌&&◌}
use mathlib.Core.Logic.{◌⊎◌, inl, inr, ⊎_elim}
use mathlib.Core.List.{List, [], ◌∷◌}
use lib.IntN.{ℤ, nat_abs}
use lib.Signed.{lt_z}
use Prim.Native.Nat.{ℕ, zero, suc}
use native.Mathlib.Omega.{arith}
use lib.Dec.{eqb, ltb, leb}
use lib.ListN.{length, get_or, drop}
use Rattle.num_bytes.specs.Choice.{pick, refuse_if, first_of}
use borrow.Author.Tests.{eqb-true}
use Rattle.num_bytes.proofs.Tests.{or_cases, picked}
use Rattle.plant_def.specs.declared.Stream.{Stream}
use Rattle.plant_def.specs.Results.{Site, Units, Missing, Record, Listed, End, Refused, Done}
use Rattle.plant_def.specs.Limits.{max_units, max_streams, max_weight, max_reading, max_range, site_kind, metered_kind, unmetered_kind}
use Rattle.plant_def.specs.Limits.{end_kind, ranged_kind, site_body, metered_body, ranged_body, unmetered_body, end_body, longest_file}
use Rattle.plant_def.specs.Plants.{Plant, units_fault, meter_fault, range_fault, stream_fault, first_fault, parts_fault}
use Rattle.plant_def.specs.Files.{Got, bad, got, site_fault, site_at, on_site, metered_in, ranged_in, unmetered_in, body_fault}
use Rattle.plant_def.specs.Files.{checked, stream_record, end_fault, end_record, kind_record, record_at, on_record, with_stream, records_by, most_records}
use Rattle.plant_def.specs.Says.{file_number, FileRefusals, PartsWritten}
use Rattle.plant_def.proofs.Accepted.{refused}

-- None, or one of the numbers of a file.
abbrev Known : ℕ → Type 0
Known f = (eqb f 0 || file_number f) ≡ true

refuse_known : (b : Bool) (k : ℕ) → Known k → Known (refuse_if b k)
refuse_known true k h = h
refuse_known false k h = refl

first_known : (f g : ℕ) → Known f → Known g → Known (first_of f g)
first_known zero g h k = k
first_known (suc f) g h k = h

-- A test with a number of its own first, then the rest.
then_known : (b : Bool) (k g : ℕ) → Known k → Known g → Known (first_of (refuse_if b k) g)
then_known b k g h = first_known (refuse_if b k) g (refuse_known b k h)

-- A stream's faults, and those of a plant's parts.
meter_known : (w : ℕ) (r : ℤ) → Known (meter_fault w r)
meter_known w r = then_known (eqb w 0 || ltb max_weight w) 9 (refuse_if (ltb max_reading (nat_abs r)) 10) refl (refuse_known (ltb max_reading (nat_abs r)) 10 refl)

range_known : (b : Bool) (l h : ℤ) → Known (range_fault b l h)
range_known b l h = refuse_known (b && (lt_z h l || (ltb max_range (nat_abs l) || ltb max_range (nat_abs h)))) 18 refl

stream_known : (n : ℕ) (s : Stream) → Known (stream_fault n s)
stream_known n s =
    let m = meter_fault s.weight s.reading in
    let q = range_fault s.ranged s.low s.high in
    let r = pick s.metered (first_of m q) 0 in
    let same = eqb s.from s.to in
    then_known (ltb n s.from || ltb n s.to) 7 (first_of (refuse_if same 8) r) refl
    (then_known same 8 r refl
    (picked Known s.metered (first_of m q) 0
    (λ t. first_known m q (meter_known s.weight s.reading) (range_known s.ranged s.low s.high))
    (λ t. refl)))

streams_known : (n : ℕ) (ss : List Stream) → Known (first_fault n ss)
streams_known n [] = refl
streams_known n (s ∷ ss) = first_known (stream_fault n s) (first_fault n ss) (stream_known n s) (streams_known n ss)

units_known : (n : ℕ) → Known (units_fault n)
units_known n = refuse_known (eqb n 0 || ltb max_units n) 6 refl

parts_known : (n c : ℕ) (ss : List Stream) → Known (parts_fault n c ss)
parts_known n c ss =
    first_known (units_fault n) (first_of (refuse_if (ltb max_streams c) 5) (first_fault n ss)) (units_known n)
    (then_known (ltb max_streams c) 5 (first_fault n ss) refl (streams_known n ss))

-- What stands where a record is due.
abbrev Says : Record → Type 0
Says (Listed x m) = Unit
Says End = Unit
Says (Refused f) = Known f

stream_record_lem : (size : ℕ) (s : Stream) (n c : ℕ) (b : List ℕ) → Says (stream_record size s n c b)
stream_record_lem size s n c b =
    picked Says (eqb (body_fault size c b) 0) (checked n s (suc size)) (Refused (body_fault size c b))
    (λ t. picked Says (eqb (stream_fault n s) 0) (Listed s (suc size)) (Refused (stream_fault n s)) (λ u. tt) (λ u. stream_known n s))
    (λ t. then_known (leb max_streams c) 5 (refuse_if (ltb (length b) size) 3) refl (refuse_known (ltb (length b) size) 3 refl))

end_record_lem : (c : ℕ) (b : List ℕ) → Says (end_record c b)
end_record_lem c b =
    let miscounted = not (eqb (get_or b 0 0) c) in
    let longer = not (eqb (length b) end_body) in
    picked Says (eqb (end_fault c b) 0) End (Refused (end_fault c b)) (λ t. tt)
    (λ t. then_known (ltb (length b) end_body) 3 (first_of (refuse_if miscounted 11) (refuse_if longer 12)) refl
    (then_known miscounted 11 (refuse_if longer 12) refl (refuse_known longer 12 refl)))

kind_record_lem : (n c k : ℕ) (b : List ℕ) → Says (kind_record n c k b)
kind_record_lem n c k b =
    let m = stream_record metered_body (metered_in b) n c b in
    let r = stream_record ranged_body (ranged_in b) n c b in
    let u = stream_record unmetered_body (unmetered_in b) n c b in
    let e = pick (eqb k end_kind) (end_record c b) (Refused 4) in
    picked Says (eqb k metered_kind) m (pick (eqb k ranged_kind) r (pick (eqb k unmetered_kind) u e)) (λ t. stream_record_lem metered_body (metered_in b) n c b)
    (λ t. picked Says (eqb k ranged_kind) r (pick (eqb k unmetered_kind) u e) (λ t. stream_record_lem ranged_body (ranged_in b) n c b)
    (λ t. picked Says (eqb k unmetered_kind) u e (λ t. stream_record_lem unmetered_body (unmetered_in b) n c b)
    (λ t. picked Says (eqb k end_kind) (end_record c b) (Refused 4) (λ t. end_record_lem c b) (λ t. refl))))

record_known : (n c : ℕ) (s : List ℕ) → Says (record_at n c s)
record_known n c s =
    picked Says (eqb (length s) 0) (Refused 3) (kind_record n c (get_or s 0 0) (drop 1 s)) (λ t. refl) (λ t. kind_record_lem n c (get_or s 0 0) (drop 1 s))

-- A file.
abbrev Tells : Got → Type 0
Tells (bad f) = Known f
Tells (got p) = Unit

records_known : (l : ℕ) (p : Plant) (s : List ℕ) → Tells (records_by record_at l p s)
records_known zero p s = refl
records_known (suc l) p s = go (record_at p.units (length p.streams) s) (record_known p.units (length p.streams) s) (records_known l)
  where
    go : (r : Record) → Says r → ((q : Plant) (t : List ℕ) → Tells (records_by record_at l q t))
        → Tells (on_record r (λ x m. records_by record_at l (with_stream p x) (drop m s)) (got p) bad)
    go (Listed x m) h rest = rest (with_stream p x) (drop m s)
    go End h rest = tt
    go (Refused f) h rest = h

site_known : (s : List ℕ) → Known (site_fault s)
site_known s =
    let other = not (eqb (get_or s 0 0) site_kind) in
    let cut = ltb (length s) (suc site_body) in
    let n = get_or s 1 0 in
    then_known (eqb (length s) 0) 3 (first_of (refuse_if other 4) (first_of (refuse_if cut 3) (units_fault n))) refl
    (then_known other 4 (first_of (refuse_if cut 3) (units_fault n)) refl (then_known cut 3 (units_fault n) refl (units_known n)))

-- (At any fuel: a numeral here would be unfolded.)
file_known : (l : ℕ) (s : List ℕ) → Tells (on_site (site_at s) (λ n. records_by record_at l (record { units = n; streams = [] }) (drop (suc site_body) s)) bad)
file_known l s =
    picked (λ (r : Site). Tells (on_site r (λ n. records_by record_at l (record { units = n; streams = [] }) (drop (suc site_body) s)) bad))
    (eqb (site_fault s) 0) (Units (get_or s 1 0)) (Missing (site_fault s))
    (λ t. records_known l (record { units = get_or s 1 0; streams = [] }) (drop (suc site_body) s))
    (λ t. site_known s)

write_known : (n c : ℕ) (ss : List Stream) (o : List ℕ) → let f = first_of (refuse_if (ltb (length o) longest_file) 1) (parts_fault n c ss) in (f ≡ 1) ⊎ Known f
write_known n c ss o = go (ltb (length o) longest_file)
  where
    go : (b : Bool) → (first_of (refuse_if b 1) (parts_fault n c ss) ≡ 1) ⊎ Known (first_of (refuse_if b 1) (parts_fault n c ss))
    go true = inl refl
    go false = inr (parts_known n c ss)

-- 19 is none of them.
not_19 : (f : ℕ) → Known f → f ≡ 19 → ⊥
not_19 f h e = true_false (subst Known e h)
  where
    true_false : false ≡ true → ⊥
    true_false q = let z : ◌≡◌ {A = ℕ} 0 1 = ap (λ (b : Bool). pick b 1 0) q in omega arith

-- A file is refused with one of these numbers alone.
pub file_refusals : FileRefusals
file_refusals s f e = or_cases (eqb f 0) (file_number f) (subst Tells e (file_known most_records s)) (λ z. absurd (refused s f e (eqb-true f 0 z))) (λ k. k)

-- So the writer never gives 19, the refusal of a plant that has no flow in range.
pub write_not_19 : (n c : ℕ) (ss : List Stream) (o o' : List ℕ) (r : Done) → PartsWritten n c ss o o' r → r.number ≡ 19 → ⊥
write_not_19 n c ss o o' r h e =
    let is = ap (λ (y : Done). y.number) h.0 in
    ⊎_elim (λ one. let z : ◌≡◌ {A = ℕ} 1 19 = sym one ∙ sym is ∙ e in omega arith) (λ k. not_19 r.number (subst Known (sym is) k) e) (write_known n c ss o)

-- Plant files: reading, with refusals 3 to 12 and 18, and writing; the round trip.
use Rattle.std.specs.Prelude.{◌≡◌, Bool, true, false, not, List, [], ◌∷◌, ◌++◌, ℤ, pos, ℕ, zero, suc, eqb, ltb, leb, length, get_or, drop}
use Rattle.num_bytes.specs.Choice.{pick, refuse_if, first_of}
use Rattle.num_bytes.specs.Bytes.{be, put_be, signed, raw, all_bytes}
use Rattle.plant_def.specs.declared.Stream.{Stream}
use Rattle.plant_def.specs.Results.{Site, Units, Missing, Record, Listed, End, Refused}
use Rattle.plant_def.specs.Limits.{max_streams, site_kind, metered_kind, unmetered_kind, end_kind, ranged_kind}
use Rattle.plant_def.specs.Limits.{site_body, metered_body, ranged_body, unmetered_body, end_body}
use Rattle.plant_def.specs.Plants.{Plant, unmetered, units_fault, stream_fault, plant_fault, plain}

-- A reading of a file: a refusal number, or a plant.
pub data Got : Type 0 where
  bad : ℕ → Got
  got : Plant → Got

-- Site record. The kind byte is missing: 3; it is another kind: 4; the body is cut: 3; n: 6.
abbrev pub site_fault : List ℕ → ℕ
site_fault s =
    first_of (refuse_if (eqb (length s) 0) 3)
    (first_of (refuse_if (not (eqb (get_or s 0 0) site_kind)) 4)
    (first_of (refuse_if (ltb (length s) (suc site_body)) 3) (units_fault (get_or s 1 0))))

-- What stands where the site record is due.
abbrev pub site_at : List ℕ → Site
site_at s = pick (eqb (site_fault s) 0) (Units (get_or s 1 0)) (Missing (site_fault s))

-- The refusal number of what stands there, 0 where it is a site record.
abbrev pub site_number : Site → ℕ
site_number (Units n) = 0
site_number (Missing f) = f

-- What follows from a site record, by its case.
abbrev pub on_site : {A : Type 0} → Site → (ℕ → A) → (ℕ → A) → A
on_site (Units n) placed refused = placed n
on_site (Missing f) placed refused = refused f

-- What both kinds of metered stream have: from, to, weight (2), reading (4, two's complement); and a range, if any.
abbrev pub meter_in : List ℕ → Bool → ℤ → ℤ → Stream
meter_in b r l h =
    record { from = get_or b 0 0; to = get_or b 1 0; metered = true; weight = be 2 2 b; reading = signed 4 (be 4 4 b); ranged = r; low = l; high = h }

-- Metered stream.
abbrev pub metered_in : List ℕ → Stream
metered_in b = meter_in b false (pos 0) (pos 0)

-- Metered stream with a range: then low and high (4 each, two's complement).
abbrev pub ranged_in : List ℕ → Stream
ranged_in b = meter_in b true (signed 4 (be 8 4 b)) (signed 4 (be 12 4 b))

-- Unmetered stream: from, to.
abbrev pub unmetered_in : List ℕ → Stream
unmetered_in b = unmetered (get_or b 0 0) (get_or b 1 0)

-- A stream record after c streams, its body `size` bytes long: a 97th stream 5, a cut body 3.
abbrev pub body_fault : ℕ → ℕ → List ℕ → ℕ
body_fault size c b = first_of (refuse_if (leb max_streams c) 5) (refuse_if (ltb (length b) size) 3)

-- A stream whose record takes m bytes: its own faults, else the stream.
abbrev pub checked : ℕ → Stream → ℕ → Record
checked n s m = pick (eqb (stream_fault n s) 0) (Listed s m) (Refused (stream_fault n s))

-- A stream's record: the faults of its body, then the stream's own.
abbrev pub stream_record : ℕ → Stream → ℕ → ℕ → List ℕ → Record
stream_record size s n c b = pick (eqb (body_fault size c b) 0) (checked n s (suc size)) (Refused (body_fault size c b))

-- End record after c streams: a cut body 3, another count 11, bytes after it 12.
abbrev pub end_fault : ℕ → List ℕ → ℕ
end_fault c b =
    first_of (refuse_if (ltb (length b) end_body) 3)
    (first_of (refuse_if (not (eqb (get_or b 0 0) c)) 11) (refuse_if (not (eqb (length b) end_body)) 12))

-- The end of the file, or what is amiss with it.
abbrev pub end_record : ℕ → List ℕ → Record
end_record c b = pick (eqb (end_fault c b) 0) End (Refused (end_fault c b))

-- The record of kind k with body b, after c streams of a plant with n units: a kind not allowed here 4.
abbrev pub kind_record : ℕ → ℕ → ℕ → List ℕ → Record
kind_record n c k b =
    pick (eqb k metered_kind) (stream_record metered_body (metered_in b) n c b)
    (pick (eqb k ranged_kind) (stream_record ranged_body (ranged_in b) n c b)
    (pick (eqb k unmetered_kind) (stream_record unmetered_body (unmetered_in b) n c b)
    (pick (eqb k end_kind) (end_record c b) (Refused 4))))

-- What stands where a record is due: a missing kind byte is 3.
abbrev pub record_at : ℕ → ℕ → List ℕ → Record
record_at n c s = pick (eqb (length s) 0) (Refused 3) (kind_record n c (get_or s 0 0) (drop 1 s))

-- What each case of Record means: the stream and the record's size, the end, or the refusal number.
abbrev pub on_record : {A : Type 0} → Record → (Stream → ℕ → A) → A → (ℕ → A) → A
on_record (Listed s m) listed ended refused = listed s m
on_record End listed ended refused = ended
on_record (Refused f) listed ended refused = refused f

-- A plant with one stream more.
abbrev pub with_stream : Plant → Stream → Plant
with_stream p s = record { units = p.units; streams = p.streams ++ (s ∷ []) }

-- At most `fuel` records, read one after the other; `at` says what stands where one is due.
abbrev pub records_by : (ℕ → ℕ → List ℕ → Record) → ℕ → Plant → List ℕ → Got
records_by at zero p s = bad 3
records_by at (suc fuel) p s =
    on_record (at p.units (length p.streams) s) (λ x m. records_by at fuel (with_stream p x) (drop m s)) (got p) bad

-- Enough for every stream there may be, and the record that ends the reading.
abbrev pub most_records : ℕ
most_records = suc max_streams

-- A file: one site record first, then the records of the streams, then the end record and nothing more.
abbrev pub file_by : (ℕ → ℕ → List ℕ → Record) → List ℕ → Got
file_by at s = on_site (site_at s) (λ n. records_by at most_records (record { units = n; streams = [] }) (drop (suc site_body) s)) bad

-- A plant file.
abbrev pub read_plant : List ℕ → Got
read_plant = file_by record_at

-- Writing. What both kinds of metered stream have: from, to, weight, reading.
abbrev pub meter_bytes : Stream → List ℕ
meter_bytes s = s.from ∷ s.to ∷ put_be 2 s.weight ++ put_be 4 (raw 4 s.reading)

-- Low and high.
abbrev pub range_bytes : Stream → List ℕ
range_bytes s = put_be 4 (raw 4 s.low) ++ put_be 4 (raw 4 s.high)

-- The record of a stream.
abbrev pub stream_bytes : Stream → List ℕ
stream_bytes s =
    pick s.metered
    (pick s.ranged (ranged_kind ∷ meter_bytes s ++ range_bytes s) (metered_kind ∷ meter_bytes s))
    (unmetered_kind ∷ s.from ∷ s.to ∷ [])

-- The records of streams, one after the other.
abbrev pub streams_bytes : List Stream → List ℕ
streams_bytes [] = []
streams_bytes (s ∷ ss) = stream_bytes s ++ streams_bytes ss

-- A plant file: site, streams, end.
abbrev pub plant_bytes : Plant → List ℕ
plant_bytes p = site_kind ∷ p.units ∷ streams_bytes p.streams ++ (end_kind ∷ length p.streams ∷ [])

-- A plant file written from its parts and read again comes back the same, both ways; and what is read is without fault, so that exactly
-- the files of such plants are read.
pub record RoundTrip : Type 0 where
  pub there : (p : Plant) → plant_fault p ≡ 0 → plain p.streams ≡ true → read_plant (plant_bytes p) ≡ got p
  pub back : (s : List ℕ) (p : Plant) → all_bytes s ≡ true → read_plant s ≡ got p → (plant_bytes p ≡ s) × (plant_fault p ≡ 0) × (plain p.streams ≡ true)

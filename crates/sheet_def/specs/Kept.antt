-- Kept sheets: reading them back in, with refusals 13 to 15; writing and reading undo each other.
use Rattle.std.specs.Prelude.{◌≡◌, ◌⊎◌, Bool, true, false, ◌&&◌, ◌||◌, not, List, [], ◌∷◌, ◌++◌, ℤ, pos, nat_abs, ℕ, zero, suc, ◌<◌, ◌≤◌, ◌^◌, eqb, ltb, leb, length, get_or, drop}
use Rattle.num_bytes.specs.Choice.{pick, refuse_if, first_of}
use Rattle.num_bytes.specs.Bytes.{be, signed, holds, all_bytes}
use Rattle.num_bytes.specs.Arrays.{filled}
use Rattle.plant_def.specs.Limits.{max_units, max_streams}
use Rattle.plant_def.specs.Files.{most_records}
use Rattle.flow_def.specs.declared.Class.{Class}
use Rattle.flow_def.specs.declared.Class.TheVariants.{Adjusted, AsRead, Given, Withheld}
use Rattle.sheet_def.specs.declared.Entry.{Entry}
use Rattle.sheet_def.specs.declared.Total.{Total}
use Rattle.sheet_def.specs.Totals.{total_kind, plain_kind, stream_size, total_size, plain_size}
use Rattle.sheet_def.specs.Sheets.{known, adjusted_kind, as_read_kind, given_kind, withheld_kind, SheetParts, parts_bytes}
use Rattle.sheet_def.specs.Counters.{offices}

-- What stands where a record of a sheet is due: a stream's entry with the record's size, the total, or a refusal.
pub data SheetRecord : Type 0 where
  Listed : Entry → ℕ → SheetRecord
  Ended : Total → SheetRecord
  Refused : ℕ → SheetRecord

-- What the sheet reader hands over: 0, how many streams the sheet lists, an entry for each, the blank past the last one, and
-- the total; or a refusal number, no streams and zeros.
pub record SheetRead : Type 0 where
  pub number : ℕ
  pub count : ℕ
  pub streams : List Entry
  pub total : Total

-- A reading of a sheet: a refusal number, or its parts.
pub data Reopened : Type 0 where
  no_sheet : ℕ → Reopened
  some_sheet : SheetParts → Reopened

-- A stream that shows a number: it stands behind the kind, 8 bytes, two's complement.
abbrev pub shown_in : Class → List ℕ → Entry
shown_in k s = record { class = k; flow = signed 8 (be 1 8 s) }

-- A withheld stream shows none, and 0 is handed over.
abbrev pub blank : Entry
blank = record { class = Withheld; flow = pos 0 }

-- A stream record of so many bytes, after c streams: a 97th 13, a cut one 13.
abbrev pub stream_record : ℕ → Entry → ℕ → List ℕ → SheetRecord
stream_record size e c s = pick (leb max_streams c || ltb (length s) size) (Refused 13) (Listed e size)

-- What a total ends in: sheet number (4), cost (8), degrees, verdict.
abbrev pub body_in : ℕ → ℕ → List ℕ → Total
body_in kind office b =
    record { kind = kind; office = office; sheet = be 0 4 b; cost = be 4 8 b; degrees = get_or b 12 0; verdict = get_or b 13 0 }

-- The total, behind its office.
abbrev pub total_in : List ℕ → Total
total_in s = body_in total_kind (get_or s 1 0) (drop 2 s)

-- The plain total: that of office 0.
abbrev pub plain_in : List ℕ → Total
plain_in s = body_in plain_kind 0 (drop 1 s)

-- Verdict 2, none, exactly at degrees 0; else 0, 1 or 3.
abbrev pub verdict_fits : ℕ → ℕ → Bool
verdict_fits d v = pick (eqb d 0) (eqb v 2) (eqb v 3 || ltb v 2)

-- The fields that are allowed: an office up to 7, a sheet number from 1, degrees up to the most units, a verdict that fits them.
abbrev pub fields_fit : Total → Bool
fields_fit t =
    ltb t.office offices && (not (eqb t.sheet 0) && (leb t.degrees max_units && verdict_fits t.degrees t.verdict))

-- A field that is not allowed: 14.
abbrev pub total_fault : Total → ℕ
total_fault t = refuse_if (not (fields_fit t)) 14

-- Bytes after a total of this size: 15.
abbrev pub after_fault : ℕ → List ℕ → ℕ
after_fault size s = refuse_if (not (eqb (length s) size)) 15

-- A total of this size at the end: cut 13, then its fields, then bytes after it.
abbrev pub end_fault : ℕ → Total → List ℕ → ℕ
end_fault size t s = first_of (refuse_if (ltb (length s) size) 13) (first_of (total_fault t) (after_fault size s))

-- The total, or what is first amiss with it.
abbrev pub total_record : ℕ → Total → List ℕ → SheetRecord
total_record size t s = pick (eqb (end_fault size t s) 0) (Ended t) (Refused (end_fault size t s))

-- The record of kind k at the front of s, after c streams: another kind 13.
abbrev pub kind_record : ℕ → ℕ → List ℕ → SheetRecord
kind_record c k s =
    pick (eqb k adjusted_kind) (stream_record stream_size (shown_in Adjusted s) c s)
    (pick (eqb k as_read_kind) (stream_record stream_size (shown_in AsRead s) c s)
    (pick (eqb k given_kind) (stream_record stream_size (shown_in Given s) c s)
    (pick (eqb k withheld_kind) (stream_record 1 blank c s)
    (pick (eqb k total_kind) (total_record total_size (total_in s) s)
    (pick (eqb k plain_kind) (total_record plain_size (plain_in s) s) (Refused 13))))))

-- What stands where a record is due: a missing one 13.
abbrev pub record_at : ℕ → List ℕ → SheetRecord
record_at c s = pick (eqb (length s) 0) (Refused 13) (kind_record c (get_or s 0 0) s)

-- What follows from a record, by its case: the entry and the record's size, the total, or the refusal.
abbrev pub on_record : {A : Type 0} → SheetRecord → (Entry → ℕ → A) → (Total → A) → (ℕ → A) → A
on_record (Listed e m) listed ended refused = listed e m
on_record (Ended t) listed ended refused = ended t
on_record (Refused f) listed ended refused = refused f

-- A sheet of these entries and this total.
abbrev pub sheet_with : List Entry → Total → Reopened
sheet_with es t = some_sheet (record { streams = es; total = t })

-- At most `fuel` records, read one after the other, behind the entries es.
abbrev pub records_from : ℕ → List Entry → List ℕ → Reopened
records_from zero es s = no_sheet 13
records_from (suc fuel) es s = on_record (record_at (length es) s) (λ e m. records_from fuel (es ++ (e ∷ [])) (drop m s)) (sheet_with es) no_sheet

-- A sheet: the stream records, then one total and nothing more.
abbrev pub read_sheet : List ℕ → Reopened
read_sheet s = records_from most_records [] s

-- What is handed over of a sheet's parts: how many streams, their entries in an array, the blank past the last one, and the total.
abbrev pub handed_over : ℕ → List Entry → Total → SheetRead
handed_over f es t = record { number = f; count = length es; streams = filled blank max_streams es; total = t }

-- The sheet reader hands over a refusal's number with no streams and zeros, or 0 and the sheet.
abbrev pub read_of : Reopened → SheetRead
read_of (no_sheet f) = handed_over f [] (record { kind = 0; office = 0; sheet = 0; cost = 0; degrees = 0; verdict = 0 })
read_of (some_sheet s) = handed_over 0 s.streams s.total

-- What the reader ensures.
abbrev pub ReadSays : List ℕ → SheetRead → Type 0
ReadSays bytes r = r ≡ read_of (read_sheet bytes)

-- An entry that a record can hold: a number of 8 bytes, or the blank, with 0.
abbrev pub fits : Class → ℤ → Bool
fits c x = pick (known c) (holds 8 x) (eqb (nat_abs x) 0)

-- Every entry of a list fits.
abbrev pub all_fit : List Entry → Bool
all_fit [] = true
all_fit (e ∷ es) = fits e.class e.flow && all_fit es

-- A kind of total with its office: the plain one has office 0.
abbrev pub kind_fits : ℕ → ℕ → Bool
kind_fits kind office = eqb kind total_kind || (eqb kind plain_kind && eqb office 0)

-- A sheet's parts that records can hold.
pub record Recorded (s : SheetParts) : Type 0 where
  pub few : length s.streams ≤ max_streams
  pub flows : all_fit s.streams ≡ true
  pub kind : kind_fits s.total.kind s.total.office ≡ true
  pub number : s.total.sheet < 256 ^ 4
  pub cost : s.total.cost < 256 ^ 8

-- A sheet's parts within their limits.
pub record WithinSheet (s : SheetParts) : Type 0 where
  pub recorded : Recorded s
  pub allowed : fields_fit s.total ≡ true

-- A sheet that is refused: a field of its total is not allowed, 14, or bytes stand after it, 15.
pub data Unfit : List ℕ → ℕ → Type 0 where
  field : (s : SheetParts) (b : List ℕ) → Recorded s → fields_fit s.total ≡ false → Unfit (parts_bytes s ++ b) 14
  after : (s : SheetParts) (x : ℕ) (b : List ℕ) → WithinSheet s → Unfit (parts_bytes s ++ (x ∷ b)) 15

-- Writing and reading undo each other: parts within their limits, written and read again, come back the same; bytes that are read,
-- written again from what was read, are the same bytes (and within their limits, so that exactly such sheets are read). What is
-- not read is refused with 13, 14 or 15: with 13 all but those that are refused as above.
pub record Reopening : Type 0 where
  pub there : (s : SheetParts) → WithinSheet s → read_sheet (parts_bytes s) ≡ some_sheet s
  pub back : (b : List ℕ) (s : SheetParts) → all_bytes b ≡ true → read_sheet b ≡ some_sheet s → (parts_bytes s ≡ b) × WithinSheet s
  pub refused : (b : List ℕ) (f : ℕ) → read_sheet b ≡ no_sheet f → (13 ≤ f) × (f ≤ 15)
  pub unfit : (b : List ℕ) (f : ℕ) → Unfit b f → read_sheet b ≡ no_sheet f
  pub others : (b : List ℕ) (f : ℕ) → all_bytes b ≡ true → read_sheet b ≡ no_sheet f → (f ≡ 13) ⊎ Unfit b f

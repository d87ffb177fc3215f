-- The sheet call before there were offices, as it was promised: one counter, and sheets under the plain total. The sheet reader of
-- that time.
use Rattle.std.specs.Prelude.{◌≡◌, Bool, ◌⊎◌, List, [], ◌∷◌, ◌++◌, ℤ, ℕ, zero, suc, ◌+◌, ◌*◌, eqb, ltb, length, get_or, drop}
use Rattle.num_bytes.specs.Choice.{pick, refuse_if, first_of}
use Rattle.num_bytes.specs.Inner.{PickT}
use Rattle.num_bytes.specs.Bytes.{over}
use Rattle.plant_def.specs.Limits.{max_streams}
use Rattle.plant_def.specs.Plants.{Plant}
use Rattle.plant_def.specs.Files.{Got, bad, got, read_plant, most_records}
use Rattle.flow_def.specs.Flows.{Cheapest}
use Rattle.flow_def.specs.Overfull.{unmarked, Overfull}
use Rattle.sheet_def.specs.declared.Entry.{Entry}
use Rattle.sheet_def.specs.declared.Sheet.{Sheet}
use Rattle.sheet_def.specs.Totals.{total_kind, plain_kind, stream_size, plain_size}
use Rattle.sheet_def.specs.Balances.{balance_of}
use Rattle.sheet_def.specs.Counters.{top_sheet}
use Rattle.sheet_def.specs.Sheets.{SheetParts, parts_bytes}
use Rattle.sheet_def.specs.Drawings.{parts_of}
use Rattle.sheet_def.specs.Kept.{SheetRecord, Refused, Reopened, no_sheet, record_at, on_record, sheet_with}

-- Sheet n of a plant with a flow, by its parts. (What a call handed over is an answer with one last sheet number.)
abbrev pub plain_parts : Plant → List ℤ → ℕ → SheetParts
plain_parts p xs n = parts_of plain_kind 0 (length p.streams) n (balance_of p xs)

-- The bytes of sheet n of a plant with a flow.
abbrev pub plain_of : Plant → List ℤ → ℕ → List ℕ
plain_of p xs n = parts_bytes (plain_parts p xs n)

-- A slice under 879 bytes 1, no sheet number left 2.
abbrev pub plain_fault : ℕ → List ℕ → ℕ
plain_fault last o = first_of (refuse_if (ltb (length o) (max_streams * stream_size + plain_size)) 1) (refuse_if (eqb last top_sheet) 2)

-- A refusal: slice and counter hold what they held.
abbrev pub PlainRefused : List Bool → ℕ → ℕ → List ℕ → List ℕ → Sheet → Type 0
PlainRefused ms f last o o' r = (r ≡ record { number = f; written = 0; lasts = last ∷ []; marked = ms }) × (o' ≡ o)

-- A sheet: the next number, and its bytes at the front of the slice.
abbrev pub PlainDrawn : Plant → ℕ → List ℕ → List ℕ → Sheet → Type 0
PlainDrawn p last o o' r =
    (xs : List ℤ)
    × Cheapest p xs
    × (r ≡ record { number = 0; written = length (plain_of p xs (suc last)); lasts = suc last ∷ []; marked = unmarked })
    × (o' ≡ over (plain_of p xs (suc last)) o)

-- By what the file was read as: refused, or drawn, or no flow in range.
abbrev pub PlainWith : Got → ℕ → List ℕ → List ℕ → Sheet → Type 0
PlainWith (bad f) last o o' r = PlainRefused unmarked f last o o' r
PlainWith (got p) last o o' r = PlainDrawn p last o o' r ⊎ ((ms : List Bool) × Overfull p ms × PlainRefused ms 19 last o o' r)

-- What the call ensured.
abbrev pub PlainSays : List ℕ → ℕ → List ℕ → List ℕ → Sheet → Type 0
PlainSays file last o o' r =
    PickT (eqb (plain_fault last o) 0) (PlainWith (read_plant file) last o o' r) (PlainRefused unmarked (plain_fault last o) last o o' r)

-- The sheet reader: a record of kind 0x1E was of a wrong kind, 13; all else as now.
abbrev pub record_before : ℕ → List ℕ → SheetRecord
record_before c s = pick (eqb (get_or s 0 0) total_kind) (Refused 13) (record_at c s)

-- At most `fuel` records, read one after the other, behind the entries es.
abbrev pub records_before : ℕ → List Entry → List ℕ → Reopened
records_before zero es s = no_sheet 13
records_before (suc fuel) es s =
    on_record (record_before (length es) s) (λ e m. records_before fuel (es ++ (e ∷ [])) (drop m s)) (sheet_with es) no_sheet

-- A sheet, as the reader of that time read it.
abbrev pub read_before : List ℕ → Reopened
read_before s = records_before most_records [] s

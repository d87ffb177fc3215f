-- A kept sheet, handed over in slices of numbers: the kinds of its streams' records, which tell the classes, and the flows.
use Rattle.std.specs.Prelude.{◌≡◌, ◌||◌, List, [], map, ℤ, ℕ, ltb, length}
use Rattle.num_bytes.specs.Choice.{pick}
use Rattle.num_bytes.specs.Bytes.{over}
use Rattle.plant_def.specs.Limits.{max_streams}
use Rattle.sheet_def.specs.declared.Entry.{Entry}
use Rattle.sheet_def.specs.Sheets.{kind_of, SheetParts}
use Rattle.sheet_def.specs.Kept.{Reopened, no_sheet, some_sheet, read_sheet}

-- A slice that does not hold as many as there may be: 1. Then the sheet's own refusals.
abbrev pub read_lent : List ℕ → ℕ → ℕ → Reopened
read_lent bytes k f = pick (ltb k max_streams || ltb f max_streams) (no_sheet 1) (read_sheet bytes)

-- The kinds of entries,
abbrev pub kinds_of : List Entry → List ℕ
kinds_of = map (λ e. kind_of e.class)

-- and their flows.
abbrev pub flows_of : List Entry → List ℤ
flows_of = map (λ e. e.flow)

-- What a reading hands over: its number, 0 where it is no refusal.
abbrev pub number_of : Reopened → ℕ
number_of (no_sheet f) = f
number_of (some_sheet s) = 0

-- The sheet's parts; zeros and no streams after a refusal.
abbrev pub parts_of : Reopened → SheetParts
parts_of (no_sheet f) = record { streams = []; total = record { kind = 0; office = 0; sheet = 0; cost = 0; degrees = 0; verdict = 0 } }
parts_of (some_sheet s) = s

-- What was read, as the caller finds it: the number, the count and the total; the kinds and the flows of the streams at the front
-- of the slices, the rest of them as it was. (A refusal has no streams: the slices are as they were.)
pub record HandedOver (q : Reopened) (ks ks' : List ℕ) (fs fs' : List ℤ) (number count kind office sheet cost degrees verdict : ℕ) : Type 0 where
  pub numbered : number ≡ number_of q
  pub counted : count ≡ length (parts_of q).streams
  pub totalled : record { kind = kind; office = office; sheet = sheet; cost = cost; degrees = degrees; verdict = verdict } ≡ (parts_of q).total
  pub kinds : ks' ≡ over (kinds_of (parts_of q).streams) ks
  pub flows : fs' ≡ over (flows_of (parts_of q).streams) fs

-- The exported sheet reader.
abbrev pub HandsOver : List ℕ → List ℕ → List ℕ → List ℤ → List ℤ → ℕ → ℕ → ℕ → ℕ → ℕ → ℕ → ℕ → ℕ → Type 0
HandsOver bytes ks ks' fs fs' = HandedOver (read_lent bytes (length ks) (length fs)) ks ks' fs fs'

-- The sheet of a balance, and of a plant with a flow: its parts, and its bytes. The sheet call's own contract cites them, and no sentence.
use Rattle.std.specs.Prelude.{List, ℤ, ℕ, length, take}
use Rattle.plant_def.specs.Plants.{Plant}
use Rattle.sheet_def.specs.declared.Balance.{Balance}
use Rattle.sheet_def.specs.Totals.{total_kind}
use Rattle.sheet_def.specs.Balances.{balance_of}
use Rattle.sheet_def.specs.Sheets.{SheetParts, parts_bytes}

-- An office's sheet n of a balance, of its first so many streams: its parts, under a total of some kind.
abbrev pub parts_of : ℕ → ℕ → ℕ → ℕ → Balance → SheetParts
parts_of kind office count n b =
    record {
      streams = take count b.streams;
      total = record { kind = kind; office = office; sheet = n; cost = b.cost; degrees = b.degrees; verdict = b.verdict };
    }

-- Its bytes, as it is drawn.
abbrev pub sheet_bytes : ℕ → ℕ → ℕ → Balance → List ℕ
sheet_bytes office count n b = parts_bytes (parts_of total_kind office count n b)

-- An office's sheet n of a plant with a flow, by its parts.
abbrev pub plant_parts : ℕ → Plant → List ℤ → ℕ → SheetParts
plant_parts office p xs n = parts_of total_kind office (length p.streams) n (balance_of p xs)

-- The bytes of an office's sheet n of a plant with a flow.
abbrev pub sheet_of : ℕ → Plant → List ℤ → ℕ → List ℕ
sheet_of office p xs n = parts_bytes (plant_parts office p xs n)

-- A plant without 0x06 comes to the same sheet in the ranged form. `SheetSays file office lasts o o' r` is what the sheet call ensures.
use Rattle.std.specs.Prelude.{◌≡◌, true, ◌↔◌, List, ℤ, ℕ}
use Rattle.plant_def.specs.Plants.{Plant}
use Rattle.plant_def.specs.Files.{got, read_plant, plant_bytes}
use Rattle.flow_def.specs.Flows.{Cheapest}
use Rattle.sheet_def.specs.declared.Sheet.{Sheet}
use Rattle.sheet_def.specs.Says.{SheetSays}
use Rattle.ranged_def.specs.Moves.{forward}
use Rattle.ranged_def.specs.Trip.{rangeless}

-- What holds of a file without ranges and the plant that it reads as.
pub record SameSheet (file : List ℕ) (p : Plant) : Type 0 where
  -- The file in the ranged form is read as the plant that was moved, and that plant has a cheapest flow: it is accepted.
  pub read : read_plant (plant_bytes (forward p)) ≡ got (forward p)
  pub some : (xs : List ℤ) × Cheapest (forward p) xs
  -- Whatever a call may return and leave in its slice for the one file, it may for the other, for every office, all counters and
  -- every slice; and neither is ever refused with 19.
  pub same : (office : ℕ) (lasts o o' : List ℕ) (r : Sheet) → SheetSays file office lasts o o' r ↔ SheetSays (plant_bytes (forward p)) office lasts o o' r
  pub sheet : (office : ℕ) (lasts o o' : List ℕ) (r : Sheet) → SheetSays file office lasts o o' r → r.number ≡ 19 → ⊥

-- Of every file without 0x06 that is read.
abbrev pub MovedSheets : Type 0
MovedSheets = (file : List ℕ) (p : Plant) → read_plant file ≡ got p → rangeless p.streams ≡ true → SameSheet file p

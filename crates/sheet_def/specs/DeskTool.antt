-- A sheet beside a desk tool that works in real numbers: how far its flow is from the sheet's numbers at most.
use Rattle.std.specs.Prelude.{◌≡◌, List, ℤ, pos, ◌-ℤ◌, ◌*ℤ◌, ℕ, ◌*◌, ◌≤◌, take}
use Rattle.plant_def.specs.Plants.{Plant}
use Rattle.plant_def.specs.Files.{got, read_plant}
use Rattle.flow_def.specs.Flows.{stream_at, amount_at, square}
use Rattle.flow_def.specs.Least.{LeastInFractions, distance}
use Rattle.flow_def.specs.declared.Class.TheVariants.{AsRead}
use Rattle.sheet_def.specs.declared.Sheet.{Sheet}
use Rattle.sheet_def.specs.Sheets.{SheetParts}
use Rattle.sheet_def.specs.Kept.{some_sheet, read_sheet}
use Rattle.sheet_def.specs.Sentences.{MeteredAt, class_on, number_on, adjusted_weights}
use Rattle.sheet_def.specs.Counters.{top_sheet, counter_of}
use Rattle.sheet_def.specs.Says.{SheetSays}

-- The metered numbers of a sheet beside a flow over d, its amounts ys.
pub record Beside (p : Plant) (s : SheetParts) (d : ℕ) (ys : List ℤ) : Type 0 where
  -- The sum of weight times (number − amount / d) squared is at most a quarter of the summed weights of the A streams.
  pub all : 4 * distance d p.streams (number_on s) ys ≤ d * d * adjusted_weights p s
  -- So is each metered stream's part by itself.
  pub each : (k : ℕ) → MeteredAt p k
      → 4 * ((stream_at p.streams k).weight * square (pos d *ℤ number_on s k -ℤ amount_at ys k)) ≤ d * d * adjusted_weights p s
  -- An R stream's number is the amount itself.
  pub as_read : (k : ℕ) → MeteredAt p k → class_on s k ≡ AsRead → amount_at ys k ≡ pos d *ℤ number_on s k

-- How far a desk tool's flow is from the sheet at most, and that there is only one on the metered streams.
pub record DeskTool : Type 0 where
  -- Of every call that drew a sheet, and every flow in fractions of least cost.
  pub near : (file : List ℕ) (office : ℕ) (lasts o o' : List ℕ) (r : Sheet) → counter_of office lasts ≤ top_sheet → SheetSays file office lasts o o' r
      → r.number ≡ 0 → (p : Plant) (d : ℕ) (ys : List ℤ) → read_plant file ≡ got p → LeastInFractions p d ys
      → (s : SheetParts) → read_sheet (take r.written o') ≡ some_sheet s → Beside p s d ys
  -- On the metered streams there is only one such flow: ys over d and zs over e are the same fractions.
  pub one : (file : List ℕ) (p : Plant) (d e : ℕ) (ys zs : List ℤ) → read_plant file ≡ got p → LeastInFractions p d ys → LeastInFractions p e zs
      → (k : ℕ) → MeteredAt p k → pos e *ℤ amount_at ys k ≡ pos d *ℤ amount_at zs k

-- What is promised of the check of a flow found elsewhere: one answer for every call, and that what our own sheets show passes it.
use Rattle.std.specs.Prelude.{◌≡◌, true, List, ℤ, nat_abs, ℕ, ◌≤◌, ◌<◌, length}
use Rattle.plant_def.specs.Plants.{Plant}
use Rattle.plant_def.specs.Files.{got, read_plant}
use Rattle.plant_parts.specs.Parts.{Slices, parts_at}
use Rattle.flow_def.specs.Flows.{stream_at, amount_at, balanced}
use Rattle.flow_def.specs.declared.Class.TheVariants.{Withheld}
use Rattle.sheet_def.specs.Sheets.{SheetParts}
use Rattle.sheet_def.specs.Sentences.{class_on, MetersAs, Tells}
use Rattle.foreign_def.specs.Numbers.{PlaceNumbers, numbers_in, NumbersSay}
use Rattle.certify_def.specs.Number.{max_wide_flow, shortest}
use Rattle.certify_def.specs.Says.{FlowSays}

-- The slices hand over the streams of a plant.
pub record HandsOver (p : Plant) (parts : Slices) : Type 0 where
  pub reach : length p.streams ≤ shortest parts
  pub same : (k : ℕ) → k < length p.streams → parts_at parts k ≡ stream_at p.streams k

-- A flow that a sheet shows: it balances, with the sheet's metered amounts. What the sheet withholds is within the limit.
pub record Shown (p : Plant) (sheet : SheetParts) (flow : List ℤ) : Type 0 where
  pub balance : balanced p flow ≡ true
  pub meters : MetersAs p sheet 1 flow
  pub small : (k : ℕ) → k < length p.streams → class_on sheet k ≡ Withheld → nat_abs (amount_at flow k) ≤ max_wide_flow

-- The promise.
pub record FlowsFoundElsewhere : Type 0 where
  -- There is an answer, and no choice is left.
  pub some : (n c : ℕ) (parts : Slices) (flow numbers : List ℤ) → (r : ℕ) × FlowSays n c parts flow numbers r
  pub one : (n c : ℕ) (parts : Slices) (flow numbers : List ℤ) (r₁ r₂ : ℕ)
      → FlowSays n c parts flow numbers r₁ → FlowSays n c parts flow numbers r₂ → r₁ ≡ r₂
  -- It agrees with the sheet call: what a sheet of a plant file shows passes, over the plant's parts, with our numbers of the places.
  pub agrees : (file : List ℕ) (p : Plant) (sheet : SheetParts) (flow : List ℤ) (q : PlaceNumbers) (parts : Slices) (r : ℕ)
      → read_plant file ≡ got p → Tells p sheet → Shown p sheet flow → NumbersSay file q → HandsOver p parts
      → FlowSays p.units (length p.streams) parts flow (numbers_in q) r → r ≡ 0

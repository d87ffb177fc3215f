-- What the check of a plant, a sheet and numbers says, and what is promised of it.
use Rattle.std.specs.Prelude.{◌≡◌, Bool, true, false, List, ℤ, ℕ, ◌≤◌, ◌<◌, length, take}
use Rattle.plant_def.specs.Plants.{Plant}
use Rattle.plant_def.specs.Files.{Got, bad, got, read_plant}
use Rattle.flow_def.specs.declared.Class.TheVariants.{Withheld}
use Rattle.flow_def.specs.Flows.{amount_at, allowed, cost, OfLeastCost}
use Rattle.sheet_def.specs.Totals.{capped}
use Rattle.sheet_def.specs.Counters.{top_sheet, counter_of}
use Rattle.sheet_def.specs.declared.Sheet.{Sheet}
use Rattle.sheet_def.specs.Sheets.{SheetParts}
use Rattle.sheet_def.specs.Says.{SheetSays}
use Rattle.sheet_def.specs.Kept.{Reopened, no_sheet, some_sheet, read_sheet}
use Rattle.sheet_def.specs.Sentences.{class_on, number_on}
use Rattle.foreign_def.specs.Passing.{Ours, JoinedByW, Passes}

-- Of a plant and a sheet that are read: 0 where the sheet passes, 26 where any rule is broken.
pub record CheckOf (p : Plant) (sheet : SheetParts) (numbers : List ℤ) (r : ℕ) : Type 0 where
  pub passed : Passes p sheet numbers → r ≡ 0
  pub broken : (Passes p sheet numbers → ⊥) → r ≡ 26

-- By what was read: the plant file's refusal, then the sheet's, then the check.
abbrev pub CheckWith : Got → Reopened → List ℤ → ℕ → Type 0
CheckWith (bad f) sheet numbers r = r ≡ f
CheckWith (got p) (no_sheet f) numbers r = r ≡ f
CheckWith (got p) (some_sheet s) numbers r = CheckOf p s numbers r

-- The check: the plant reader's refusals, then the sheet reader's, then 26.
abbrev pub CheckSays : List ℕ → List ℕ → List ℤ → ℕ → Type 0
CheckSays file sheet numbers r = CheckWith (read_plant file) (read_sheet sheet) numbers r

-- A sheet shows a flow: its numbers, on all but the W streams, are the flow's amounts.
abbrev pub ShowsFlow : Plant → SheetParts → List ℤ → Type 0
ShowsFlow p sheet xs = (k : ℕ) → k < length p.streams → (class_on sheet k ≡ Withheld → ⊥) → number_on sheet k ≡ amount_at xs k

-- A sheet that differs from ours only in showing another balanced flow in range of the same cost, which is the least. (Our own is one
-- of them.)
pub record OtherFlow (p : Plant) (sheet : SheetParts) : Type 0 where
  pub ours : Ours p sheet
  pub flow : List ℤ
  pub least : OfLeastCost p flow
  pub shows : ShowsFlow p sheet flow

-- What an answer 0 vouches for: both files are read and the sheet passes; so it is a sheet that shows a flow of least cost, and its cost
-- is that flow's.
pub record Vouched (file bytes : List ℕ) (numbers : List ℤ) : Type 0 where
  pub plant : Plant
  pub listed : read_plant file ≡ got plant
  pub sheet : SheetParts
  pub read : read_sheet bytes ≡ some_sheet sheet
  pub passes : Passes plant sheet numbers
  pub shown : OtherFlow plant sheet
  pub costs : sheet.total.cost ≡ capped (cost plant.streams shown.flow)

-- Numbers with which the answer is 0 for each sheet that the sheet call draws of the file, and for each sheet that differs from it
-- only in showing another balanced flow in range of the same cost.
pub record PassAll (file : List ℕ) (p : Plant) (numbers : List ℤ) : Type 0 where
  pub ours : (office : ℕ) (lasts o o' : List ℕ) (s : Sheet) (r : ℕ) → counter_of office lasts ≤ top_sheet → SheetSays file office lasts o o' s
      → s.number ≡ 0 → CheckSays file (take s.written o') numbers r → r ≡ 0
  pub others : (sheet : SheetParts) (bytes : List ℕ) (r : ℕ) → OtherFlow p sheet → read_sheet bytes ≡ some_sheet sheet
      → CheckSays file bytes numbers r → r ≡ 0

-- The promise.
pub record ForeignSheets : Type 0 where
  -- Each place is in a set that W streams join, so that the rule of sums asks something of it.
  pub sets : (file : List ℕ) (p : Plant) (sheet : SheetParts) (u : ℕ) → read_plant file ≡ got p → u ≤ p.units
      → (c : ℕ → Bool) × (c u ≡ true) × JoinedByW p sheet u c
  -- There is an answer, and no choice is left.
  pub some : (file bytes : List ℕ) (numbers : List ℤ) → (r : ℕ) × CheckSays file bytes numbers r
  pub one : (file bytes : List ℕ) (numbers : List ℤ) (r₁ r₂ : ℕ) → CheckSays file bytes numbers r₁ → CheckSays file bytes numbers r₂ → r₁ ≡ r₂
  -- What passes has least cost.
  pub sound : (file bytes : List ℕ) (numbers : List ℤ) → CheckSays file bytes numbers 0 → Vouched file bytes numbers
  -- A plant without a balanced flow in range, which has no sheet: 26 for every sheet that is read.
  pub none : (file bytes : List ℕ) (numbers : List ℤ) (p : Plant) (sheet : SheetParts) (r : ℕ) → read_plant file ≡ got p
      → ((ys : List ℤ) → allowed p ys ≡ false) → read_sheet bytes ≡ some_sheet sheet → CheckSays file bytes numbers r → r ≡ 26
  -- Of every other plant some numbers pass all that must pass.
  pub complete : (file : List ℕ) (p : Plant) (ys : List ℤ) → read_plant file ≡ got p → allowed p ys ≡ true → (numbers : List ℤ) × PassAll file p numbers

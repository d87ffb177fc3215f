-- Numbers of the places of our own: one for each place, with which our sheets pass the check.
use Rattle.std.specs.Prelude.{◌≡◌, true, false, List, ℤ, pos, ℕ, suc, ◌<◌, length, take, replicate}
use Rattle.plant_def.specs.Converts.{ReadAs}
use Rattle.plant_def.specs.Limits.{places}
use Rattle.plant_def.specs.Plants.{Plant}
use Rattle.plant_def.specs.Files.{Got, got, read_plant}
use Rattle.flow_def.specs.Flows.{allowed}
use Rattle.sheet_def.specs.declared.Sheet.{Sheet}
use Rattle.sheet_def.specs.Sheets.{SheetParts}
use Rattle.sheet_def.specs.Sentences.{call_fault}
use Rattle.sheet_def.specs.Says.{SheetSays}
use Rattle.foreign_def.specs.Passing.{place_number, Passes}
use Rattle.foreign_def.specs.Says.{OtherFlow, PassAll}

-- What the call over numbers of the places hands over: 0, how many places there are, and a number for each of them, 0 past them; or
-- a refusal number and zeros.
pub record PlaceNumbers : Type 0 where
  pub number : ℕ
  pub count : ℕ
  pub numbers : List ℤ

-- A refusal: its number, no places, zeros.
abbrev pub no_numbers : ℕ → PlaceNumbers
no_numbers f = record { number = f; count = 0; numbers = replicate places (pos 0) }

-- The numbers that there are.
abbrev pub numbers_in : PlaceNumbers → List ℤ
numbers_in r = take r.count r.numbers

-- Numbers with which our sheet of a plant passes, and each that differs from it only in showing another balanced flow in range of the
-- same cost.
abbrev pub Serve : Plant → List ℤ → Type 0
Serve p numbers = (sheet : SheetParts) → OtherFlow p sheet → Passes p sheet numbers

-- One number for each of the places 0 to n, 0 past them. Which they are is the program's choice; every choice serves, and gives the
-- outside 0.
pub record Numbered (p : Plant) (r : PlaceNumbers) : Type 0 where
  pub number : r.number ≡ 0
  pub count : r.count ≡ suc p.units
  pub serve : Serve p (numbers_in r)
  pub outside : place_number r.numbers 0 ≡ pos 0
  pub past : (u : ℕ) → p.units < u → place_number r.numbers u ≡ pos 0
  pub long : length r.numbers ≡ places

-- Of a plant that is read: numbers where it has a balanced flow in range, else 19.
pub record NumbersOf (p : Plant) (r : PlaceNumbers) : Type 0 where
  pub some : (ys : List ℤ) → allowed p ys ≡ true → Numbered p r
  pub none : ((ys : List ℤ) → allowed p ys ≡ false) → r ≡ no_numbers 19

-- The call: the plant reader's refusals, then 19, else numbers.
abbrev pub NumbersSay : List ℕ → PlaceNumbers → Type 0
NumbersSay file = ReadAs no_numbers NumbersOf (read_plant file)

-- The same of what was read.
abbrev pub NumbersWith : Got → PlaceNumbers → Type 0
NumbersWith = ReadAs no_numbers NumbersOf

-- What is promised of numbers, whichever are chosen.
pub record OwnNumbers : Type 0 where
  -- There is an answer for every file.
  pub some : (file : List ℕ) → (r : PlaceNumbers) × NumbersSay file r
  -- It is a refusal exactly where the sheet call, its own refusals aside, gives the same one.
  pub refused : (file : List ℕ) (r : PlaceNumbers) (office : ℕ) (lasts o o' : List ℕ) (s : Sheet) → NumbersSay file r
      → SheetSays file office lasts o o' s → call_fault office lasts o ≡ 0 → r.number ≡ s.number
  -- Else the check passes each sheet that the sheet call draws of the file, and each that differs from it only in showing another
  -- balanced flow in range of the same cost.
  pub pass : (file : List ℕ) (r : PlaceNumbers) (p : Plant) → NumbersSay file r → r.number ≡ 0 → read_plant file ≡ got p
      → PassAll file p (numbers_in r)

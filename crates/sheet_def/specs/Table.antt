-- The proved table of plants: files, their cheapest flows, and the sheets that calls leave in the slice, byte for byte.
use Rattle.std.specs.Prelude.{◌≡◌, Bool, true, false, List, [], ◌∷◌, ◌++◌, ℤ, pos, ℕ, ◌-◌, ◌*◌, replicate}
use Rattle.num_bytes.specs.Bytes.{over}
use Rattle.plant_def.specs.Limits.{places}
use Rattle.plant_def.specs.Plants.{Plant}
use Rattle.plant_def.specs.Files.{got, read_plant}
use Rattle.flow_def.specs.Flows.{Cheapest}
use Rattle.flow_def.specs.Overfull.{Overfull}
use Rattle.flow_def.specs.Least.{LeastInFractions, distance}
use Rattle.sheet_def.specs.declared.Sheet.{Sheet}
use Rattle.sheet_def.specs.Sentences.{number_on, adjusted_weights, call_fault}
use Rattle.sheet_def.specs.Sheets.{SheetParts}
use Rattle.sheet_def.specs.Kept.{some_sheet, read_sheet}
use Rattle.sheet_def.specs.Counters.{offices_from}
use Rattle.sheet_def.specs.Says.{SheetSays}

-- A plant file, its cheapest flow, and the sheet.
pub record Example : Type 0 where
  pub file : List ℕ
  pub flow : List ℤ
  pub sheet : List ℕ

-- The file reads to a plant, the flow is its cheapest, and every first call of office 0 with a slice that is taken leaves this sheet there.
abbrev pub Shows : Example → Type 0
Shows e =
    (p : Plant)
    × (read_plant e.file ≡ got p)
    × Cheapest p e.flow
    × ((o o' : List ℕ) (r : Sheet) → call_fault 0 (offices_from 0) o ≡ 0 → SheetSays e.file 0 (offices_from 0) o o' r → o' ≡ over e.sheet o)

-- The same of every example of a list.
abbrev pub AllShow : List Example → Type 0
AllShow [] = Unit {0}
AllShow (e ∷ es) = Shows e × AllShow es

-- The file reads to a plant of which this set of places is overfull, and every first call of office 0 with a slice that is taken returns 19.
abbrev pub Refuses : List ℕ → List Bool → Type 0
Refuses file ms =
    (p : Plant)
    × (read_plant file ≡ got p)
    × Overfull p ms
    × ((o o' : List ℕ) (r : Sheet) → call_fault 0 (offices_from 0) o ≡ 0 → SheetSays file 0 (offices_from 0) o o' r → r.number ≡ 19)

-- Records of a file, with a weight, a reading and a range below 256; of a sheet, with an amount below 256 and a cost of two bytes. A site of n units:
abbrev pub site : ℕ → List ℕ
site n = 1 ∷ n ∷ []

-- A metered stream,
abbrev pub meter : ℕ → ℕ → ℕ → ℕ → List ℕ
meter u v w r = 2 ∷ u ∷ v ∷ 0 ∷ w ∷ 0 ∷ 0 ∷ 0 ∷ r ∷ []

-- one with a range,
abbrev pub within : ℕ → ℕ → ℕ → ℕ → ℕ → ℕ → List ℕ
within u v w r low high = 6 ∷ u ∷ v ∷ 0 ∷ w ∷ 0 ∷ 0 ∷ 0 ∷ r ∷ 0 ∷ 0 ∷ 0 ∷ low ∷ 0 ∷ 0 ∷ 0 ∷ high ∷ []

-- an unmetered one,
abbrev pub pipe : ℕ → ℕ → List ℕ
pipe u v = 3 ∷ u ∷ v ∷ []

-- and the end of a file.
abbrev pub end : ℕ → List ℕ
end c = 4 ∷ c ∷ []

-- A stream's record on a sheet,
abbrev pub shown : ℕ → ℕ → List ℕ
shown kind x = kind ∷ 0 ∷ 0 ∷ 0 ∷ 0 ∷ 0 ∷ 0 ∷ 0 ∷ x ∷ []

-- and its total, of sheet 1.
abbrev pub total : ℕ → ℕ → ℕ → ℕ → List ℕ
total high low degrees verdict = 30 ∷ 0 ∷ 0 ∷ 0 ∷ 0 ∷ 1 ∷ 0 ∷ 0 ∷ 0 ∷ 0 ∷ 0 ∷ 0 ∷ high ∷ low ∷ degrees ∷ verdict ∷ []

-- In 100, out 103: 101, 101, cost 50.
abbrev pub tie : Example
tie =
    record {
      file = site 1 ++ meter 0 1 10 100 ++ meter 1 0 10 103 ++ end 2;
      flow = pos 101 ∷ pos 101 ∷ [];
      sheet = shown 17 101 ++ shown 17 101 ++ total 0 50 1 0;
    }

-- In 103, out 60 and 40: 102, 61, 41, cost 30.
-- In 101, out 60 and 40: 100, 60, 40, cost 10.
-- The tie above.
-- Weights 30 and 10, in 100, out 104: 101, 101, cost 120.
-- In 100 metered, out unmetered: R 100, G 100, degrees 0, none.
-- A dead end, one metered stream in, 7: A 0, cost 490, degrees 1, pass.
-- The same with weight 1: 61 costs 3,721 and passes, 62 costs 3,844 and fails.
-- In 100, out 107, weights 155: 103, 103, cost 3,875, close: 103½, which no sheet shows, costs 3,797½ and would pass.
-- The same with weights 157: cost 3,925, fail: 103½ costs 3,846½.
-- The listing's plant: 99, two blanks, 99, cost 20.
-- No streams.
-- In 103 within 0 to 100, out 60 and 40: 100, 60, 40, cost 90.
-- In 100, out 103 within 102 to 200: 102, 102, cost 50, since the tie's 101 is not in range.
-- In 100 within 0 to 90, out unmetered: R 90, G 90, cost 1,000, degrees 0, none.
abbrev pub examples : List Example
examples =
    record {
      file = site 1 ++ meter 0 1 10 103 ++ meter 1 0 10 60 ++ meter 1 0 10 40 ++ end 3;
      flow = pos 102 ∷ pos 61 ∷ pos 41 ∷ [];
      sheet = shown 17 102 ++ shown 17 61 ++ shown 17 41 ++ total 0 30 1 0;
    }
    ∷ record {
      file = site 1 ++ meter 0 1 10 101 ++ meter 1 0 10 60 ++ meter 1 0 10 40 ++ end 3;
      flow = pos 100 ∷ pos 60 ∷ pos 40 ∷ [];
      sheet = shown 17 100 ++ shown 17 60 ++ shown 17 40 ++ total 0 10 1 0;
    }
    ∷ tie
    ∷ record {
      file = site 1 ++ meter 0 1 30 100 ++ meter 1 0 10 104 ++ end 2;
      flow = pos 101 ∷ pos 101 ∷ [];
      sheet = shown 17 101 ++ shown 17 101 ++ total 0 120 1 0;
    }
    ∷ record { file = site 1 ++ meter 0 1 10 100 ++ pipe 1 0 ++ end 2; flow = pos 100 ∷ pos 100 ∷ []; sheet = shown 18 100 ++ shown 19 100 ++ total 0 0 0 2 }
    ∷ record { file = site 1 ++ meter 0 1 10 7 ++ end 1; flow = pos 0 ∷ []; sheet = shown 17 0 ++ total 1 234 1 0 }
    ∷ record { file = site 1 ++ meter 0 1 1 61 ++ end 1; flow = pos 0 ∷ []; sheet = shown 17 0 ++ total 14 137 1 0 }
    ∷ record { file = site 1 ++ meter 0 1 1 62 ++ end 1; flow = pos 0 ∷ []; sheet = shown 17 0 ++ total 15 4 1 1 }
    ∷ record {
      file = site 1 ++ meter 0 1 155 100 ++ meter 1 0 155 107 ++ end 2;
      flow = pos 103 ∷ pos 103 ∷ [];
      sheet = shown 17 103 ++ shown 17 103 ++ total 15 35 1 3;
    }
    ∷ record {
      file = site 1 ++ meter 0 1 157 100 ++ meter 1 0 157 107 ++ end 2;
      flow = pos 103 ∷ pos 103 ∷ [];
      sheet = shown 17 103 ++ shown 17 103 ++ total 15 85 1 1;
    }
    ∷ record {
      file = site 2 ++ meter 0 1 10 100 ++ pipe 1 2 ++ pipe 1 2 ++ meter 2 0 10 98 ++ end 4;
      flow = pos 99 ∷ pos 99 ∷ pos 0 ∷ pos 99 ∷ [];
      sheet = shown 17 99 ++ (20 ∷ 20 ∷ []) ++ shown 17 99 ++ total 0 20 1 0;
    }
    ∷ record { file = site 1 ++ end 0; flow = []; sheet = total 0 0 0 2 }
    ∷ record {
      file = site 1 ++ within 0 1 10 103 0 100 ++ meter 1 0 10 60 ++ meter 1 0 10 40 ++ end 3;
      flow = pos 100 ∷ pos 60 ∷ pos 40 ∷ [];
      sheet = shown 17 100 ++ shown 17 60 ++ shown 17 40 ++ total 0 90 1 0;
    }
    ∷ record {
      file = site 1 ++ meter 0 1 10 100 ++ within 1 0 10 103 102 200 ++ end 2;
      flow = pos 102 ∷ pos 102 ∷ [];
      sheet = shown 17 102 ++ shown 17 102 ++ total 0 50 1 0;
    }
    ∷ record {
      file = site 1 ++ within 0 1 10 100 0 90 ++ pipe 1 0 ++ end 2;
      flow = pos 90 ∷ pos 90 ∷ [];
      sheet = shown 18 90 ++ shown 19 90 ++ total 3 232 0 2;
    }
    ∷ []

-- A flow over d is of least cost in fractions, and the sheet, which every first call leaves, is as far from it as a sheet can be: the
-- bound of the desk tool is met with equality. So it is for the tie, with 101 1/2 on both streams.
pub record Farthest (e : Example) (d : ℕ) (ys : List ℤ) : Type 0 where
  pub plant : Plant
  pub listed : read_plant e.file ≡ got plant
  pub least : LeastInFractions plant d ys
  pub sheet : SheetParts
  pub read : read_sheet e.sheet ≡ some_sheet sheet
  pub met : 4 * distance d plant.streams (number_on sheet) ys ≡ d * d * adjusted_weights plant sheet

-- In within 10 to 20, out within 0 to 5: the unit must take in more than it can let out.
abbrev pub full_file : List ℕ
full_file = site 1 ++ within 0 1 10 15 10 20 ++ within 1 0 10 15 0 5 ++ end 2

-- The set that shows it: unit 1 alone.
abbrev pub full_unit : List Bool
full_unit = false ∷ true ∷ replicate (places - 2) false

-- What a call promises that reads a file and writes a plant file from it: each result is one definition's value.
use Rattle.std.specs.Prelude.{◌≡◌, List, [], ℕ, ltb, length}
use Rattle.num_bytes.specs.Choice.{refuse_if, first_of}
use Rattle.plant_def.specs.Results.{Done}
use Rattle.plant_def.specs.Limits.{longest_file}
use Rattle.plant_def.specs.Plants.{Plant}
use Rattle.plant_def.specs.Files.{Got, bad, got, plant_bytes}
use Rattle.plant_def.specs.Says.{Written}

-- What a call hands over of a file that it reads: a refusal by its number, else what is said of the plant.
abbrev pub ReadAs : {R : Type 0} → (ℕ → R) → (Plant → R → Type 0) → Got → R → Type 0
ReadAs none Of (bad f) r = r ≡ none f
ReadAs none Of (got p) r = Of p r

-- A reading's refusal number, 0 where it is none.
abbrev pub fault_of : Got → ℕ
fault_of (bad f) = f
fault_of (got p) = 0

-- The bytes of its plant, none where it is a refusal.
abbrev pub bytes_of : Got → List ℕ
bytes_of (bad f) = []
bytes_of (got p) = plant_bytes p

-- A slice too short for the longest plant file 1, then the reading's.
abbrev pub convert_fault : Got → List ℕ → ℕ
convert_fault g o = first_of (refuse_if (ltb (length o) longest_file) 1) (fault_of g)

-- As the plant writer promises of its bytes.
abbrev pub Converts : Got → List ℕ → List ℕ → Done → Type 0
Converts g o = Written (convert_fault g o) (bytes_of g) o

-- What inner functions need of a reading, and what they make of it.
use Rattle.std.specs.Prelude.{◌≡◌, List, ℕ}
use Rattle.plant_def.specs.Results.{Read, Done}
use Rattle.plant_def.specs.Plants.{plant_fault}
use Rattle.plant_def.specs.Files.{Got, bad, got}
use Rattle.plant_def.specs.Says.{read_of}
use Rattle.plant_def.specs.Converts.{Converts}

-- A refusal has a number, and a plant that is read has no fault.
abbrev pub Faultless : Got → Type 0
Faultless (bad f) = f ≡ 0 → ⊥
Faultless (got p) = plant_fault p ≡ 0

-- A reading written, whatever it was a reading of.
abbrev pub WritesRead : Read → List ℕ → List ℕ → Done → Type 0
WritesRead y o o' r = (g : Got) → Faultless g → y ≡ read_of g → Converts g o o' r

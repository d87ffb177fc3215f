-- What the sheet call ensures, byte by byte.
use Rattle.std.specs.Prelude.{◌≡◌, ◌⊎◌, List, ℤ, ℕ, eqb, length}
use Rattle.num_bytes.specs.Inner.{PickT}
use Rattle.num_bytes.specs.Bytes.{over}
use Rattle.plant_def.specs.Plants.{Plant}
use Rattle.plant_def.specs.Files.{Got, bad, got, read_plant}
use Rattle.flow_def.specs.Flows.{Cheapest}
use Rattle.flow_def.specs.Overfull.{unmarked}
use Rattle.sheet_def.specs.declared.Sheet.{Sheet}
use Rattle.sheet_def.specs.Counters.{next_of, raised}
use Rattle.sheet_def.specs.Drawings.{sheet_of}
use Rattle.sheet_def.specs.Sentences.{call_fault, Refused, Overfilled}

-- A sheet drawn: that of the cheapest flow, under the calling office's next number, and no other office's number is touched; the
-- slice past it as it was.
abbrev pub Drawn : Plant → ℕ → List ℕ → List ℕ → List ℕ → Sheet → Type 0
Drawn p office lasts o o' r =
    (xs : List ℤ)
    × Cheapest p xs
    × (r ≡ record { number = 0; written = length (sheet_of office p xs (next_of office lasts)); lasts = raised office lasts; marked = unmarked })
    × (o' ≡ over (sheet_of office p xs (next_of office lasts)) o)

-- By what the file was read as: refused, or drawn, or no flow in range.
abbrev pub SheetWith : Got → ℕ → List ℕ → List ℕ → List ℕ → Sheet → Type 0
SheetWith (bad f) office lasts o o' r = Refused f lasts o o' r
SheetWith (got p) office lasts o o' r = Drawn p office lasts o o' r ⊎ Overfilled p lasts o o' r

-- The sheet call: 1, 22, 2, then the file's refusals, then 19, else the sheet.
abbrev pub SheetSays : List ℕ → ℕ → List ℕ → List ℕ → List ℕ → Sheet → Type 0
SheetSays file office lasts o o' r =
    PickT (eqb (call_fault office lasts o) 0) (SheetWith (read_plant file) office lasts o o' r) (Refused (call_fault office lasts o) lasts o o' r)

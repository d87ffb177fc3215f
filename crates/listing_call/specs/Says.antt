-- What the call that lists a plant promises.
use Rattle.std.specs.Prelude.{◌≡◌, Bool, ◌⊎◌, List, ℤ, ℕ, ltb, length}
use Rattle.num_bytes.specs.Inner.{Put, PickT}
use Rattle.plant_def.specs.Plants.{Plant}
use Rattle.plant_def.specs.Files.{Got, bad, got, read_plant}
use Rattle.flow_def.specs.Flows.{Cheapest}
use Rattle.flow_def.specs.Overfull.{Overfull}
use Rattle.sheet_def.specs.Balances.{balance_of}
use Rattle.listing_lines.specs.Listing.{listing_of, refusal_text}
use Rattle.listing_lines.specs.Room.{least_text}

-- The listing of sheet 1 of the balance by a cheapest flow; the slice past it is as it was.
abbrev pub Listed : Plant → List ℕ → List ℕ → ℕ → Type 0
Listed p o o' r = (xs : List ℤ) × Cheapest p xs × Put (listing_of (length p.streams) 1 (balance_of p xs)) o o' r

-- No flow in range: the text of refusal 19.
abbrev pub Overfilled : Plant → List ℕ → List ℕ → ℕ → Type 0
Overfilled p o o' r = (ms : List Bool) × Overfull p ms × Put (refusal_text 19) o o' r

-- By what the file was read as: the text of its refusal, or the listing or refusal 19 of its plant.
abbrev pub ListWith : Got → List ℕ → List ℕ → ℕ → Type 0
ListWith (bad f) o o' r = Put (refusal_text f) o o' r
ListWith (got p) o o' r = Listed p o o' r ⊎ Overfilled p o o' r

-- A slice that is too short: nothing, and the slice as it was.
abbrev pub ListSays : List ℕ → List ℕ → List ℕ → ℕ → Type 0
ListSays file o o' r = PickT (ltb (length o) least_text) ((r ≡ 0) × (o' ≡ o)) (ListWith (read_plant file) o o' r)

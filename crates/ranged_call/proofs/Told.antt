-- A refusal of the reader, on the way home.
use mathlib.Core.Path.{◌≡◌, refl}
use mathlib.Core.List.{List}
use Prim.Native.Nat.{ℕ}
use Rattle.std.specs.Prelude.{Err}
use Rattle.plant_def.specs.declared.refusal.Refusal.{Refusal}
use Rattle.plant_def.specs.Files.{read_plant}
use Rattle.plant_def.specs.Says.{read_of}
use Rattle.plant_def.specs.Views.{read_as}
use Rattle.plant_def.proofs.Numbers.{some_number}
use Rattle.ranged_def.specs.Moves.{from_ranged}
use Rattle.ranged_def.proofs.Reading.{home_bad}

-- It stays as it is.
pub home_told : (file : List ℕ) (e : Refusal) → read_as (Err e) ≡ read_of (read_plant file) → read_as (Err e) ≡ read_of (from_ranged (read_plant file))
home_told file e d = home_bad file _ d (some_number e) _ refl

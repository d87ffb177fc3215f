-- The exported plant writer and the exported plant reader undo each other.
use Rattle.std.specs.Prelude.{◌≡◌, true, List, ℕ, ◌-◌, ◌≤◌, length, take}
use Rattle.num_bytes.specs.Bytes.{over, all_bytes}
use Rattle.num_bytes.specs.Inner.{values}
use Rattle.plant_def.specs.Results.{Done}
use Rattle.plant_def.specs.Limits.{max_streams, longest_file}
use Rattle.plant_def.specs.Plants.{plain}
use Rattle.plant_parts.specs.Parts.{Slices, reaches, handed, HandedWritten}
use Rattle.plant_lent.specs.Lent.{PlantFound}

-- What is promised of the two calls together.
pub record PartsTrip : Type 0 where
  -- A plant that is written from its parts and read: its units, as many streams, the same parts. (Unmetered streams have neither weight, reading
  -- nor range, and streams without a range have low and high 0: a file has no room for them.)
  pub there : (n c : ℕ) (p : Slices) (o o' : List ℕ) (r : Done) → plain (values c (handed p)) ≡ true → HandedWritten n c p o o' r → r.number ≡ 0
      → (q q' : Slices) (number units count : ℕ) → reaches q (max_streams - 1) ≡ true → PlantFound (take r.written o') q (number, units, count, q')
      → (number ≡ 0) × (units ≡ n) × (count ≡ c) × (values c (handed q') ≡ values c (handed p))
  -- A file that is read, and written from what is found: its bytes.
  pub back : (file : List ℕ) (p p' : Slices) (units count : ℕ) → all_bytes file ≡ true → PlantFound file p (0, units, count, p')
      → (o o' : List ℕ) (r : Done) → longest_file ≤ length o → HandedWritten units count p' o o' r
      → (r ≡ record { number = 0; written = length file }) × (o' ≡ over file o)
  -- Every reading has an answer.
  pub some : (file : List ℕ) (p : Slices) → (found : ℕ × ℕ × ℕ × Slices) × PlantFound file p found

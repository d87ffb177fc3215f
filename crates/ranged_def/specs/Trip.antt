-- What comes of a plant that is moved: a plant file again, and for one without ranges the way home.
use Rattle.std.specs.Prelude.{◌≡◌, Bool, true, not, ◌&&◌, List, [], ◌∷◌, ℕ, ◌≤◌, length, take}
use Rattle.num_bytes.specs.Bytes.{all_bytes, over}
use Rattle.plant_def.specs.declared.Stream.{Stream}
use Rattle.plant_def.specs.Results.{Done}
use Rattle.plant_def.specs.Limits.{longest_file}
use Rattle.plant_def.specs.Plants.{Plant, limited}
use Rattle.plant_def.specs.Files.{got, read_plant, plant_bytes}
use Rattle.ranged_def.specs.Moves.{to_ranged, from_ranged, ToSays, FromSays}

-- A plant without 0x06: no stream has a range.
abbrev pub rangeless : List Stream → Bool
rangeless [] = true
rangeless (s ∷ ss) = not (limited s) && rangeless ss

-- What both moves promise.
pub record Moving : Type 0 where
  -- What is written is a plant file, which reads as the plant that was moved.
  pub forth : (file : List ℕ) (p : Plant) → to_ranged (read_plant file) ≡ got p → read_plant (plant_bytes p) ≡ got p
  pub back : (file : List ℕ) (p : Plant) → from_ranged (read_plant file) ≡ got p → read_plant (plant_bytes p) ≡ got p
  -- A file without 0x06, moved and moved home, is the file itself: whatever the slices that the two calls are lent, the second
  -- returns 0 and leaves the file at the front of its slice, byte for byte.
  pub trip : (file : List ℕ) (p : Plant) → all_bytes file ≡ true → read_plant file ≡ got p → rangeless p.streams ≡ true
      → (o o' u u' : List ℕ) (r q : Done) → longest_file ≤ length o → longest_file ≤ length u
      → ToSays file o o' r → FromSays (take r.written o') u u' q
      → (q ≡ record { number = 0; written = length file }) × (u' ≡ over file u)

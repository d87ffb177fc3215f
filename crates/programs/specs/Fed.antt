-- What a program is fed. (What the bytes are that a read puts down, and that there was a read, no promise can say: that is tested.)
use Rattle.std.specs.Prelude.{◌≡◌, Bool, false, not, ◌&&◌, List, ℤ, pos, leb, ℕ, suc, ◌<◌, length}
use Rattle.std.specs.Int.Signed.{lt_z}
use Rattle.plant_def.specs.Limits.{longest_file}

-- There is room for one byte more than the longest file. Of it `size` bytes were read, and `last` is what the last read answered: reading ends
-- where the room is full, or where a read gives no byte more. A file is taken exactly where the program has no argument and no read failed.
pub record FedSays (file : List ℕ) (size : ℕ) (last : ℤ) (words : ℕ) (taken : Bool) : Type 0 where
  pub room : length file ≡ suc longest_file
  pub ended : size < length file → lt_z (pos 0) last ≡ false
  pub takes : taken ≡ (leb words 1 && not (lt_z last (pos 0)))

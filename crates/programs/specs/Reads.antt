-- What is read out.
use Rattle.std.specs.Prelude.{◌≡◌, false, List, ℤ, pos, ℕ, ◌<◌, length}
use Rattle.std.specs.Int.Signed.{lt_z}

-- So many bytes have been read into a slice, and this is what the last read answered: reading ends where the slice is full, or where a
-- read gives no byte more.
pub record ReadOut (file : List ℕ) (size : ℕ) (last : ℤ) : Type 0 where
  pub ended : size < length file → lt_z (pos 0) last ≡ false

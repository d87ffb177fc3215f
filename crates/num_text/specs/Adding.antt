-- Text put into a slice at a place.
use Rattle.std.specs.Prelude.{◌≡◌, List, ◌++◌, ℕ, ◌+◌, ◌≤◌, length, take, drop}
use Rattle.num_bytes.specs.Bytes.{over}

-- The text stands at its place, all else as it was; and the place behind it.
pub record Added (text : List ℕ) (at : ℕ) (before after : List ℕ) (next : ℕ) : Type 0 where
  pub bytes : after ≡ take at before ++ over text (drop at before)
  pub place : next ≡ at + length text
  pub room : next ≤ length before

-- The ends of a stream.
use Rattle.std.specs.Prelude.{◌≡◌, ℕ}
use Rattle.plant_def.specs.declared.Stream.{Stream}

-- A stream runs from place u to place v.
pub record Runs (s : Stream) (u v : ℕ) : Type 0 where
  pub start : s.from ≡ u
  pub end : s.to ≡ v

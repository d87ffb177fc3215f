-- Marked places as the bits of a number: bit u for place u.
use Rattle.std.specs.Prelude.{Bool, List, ℕ}
use Rattle.num_bytes.specs.Inner.{values}
use Rattle.plant_def.specs.Limits.{places}
use Rattle.num_bytes.specs.Sums.{bit}

-- The places that the bits of m mark.
abbrev pub marks_in : ℕ → List Bool
marks_in m = values places (λ u. bit u m)

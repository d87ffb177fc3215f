-- What a stream costs by its row.
use Rattle.std.specs.Prelude.{ℕ, ◌+◌, ◌-◌, ◌*◌}

-- The square of how far two numbers are apart.
abbrev pub distance_squared : ℕ → ℕ → ℕ
distance_squared x y = ((x - y) + (y - x)) * ((x - y) + (y - x))

-- A number whose square, times any weight, is within a word: 2^27.
abbrev pub safe_root : ℕ
safe_root = 134217728

-- How many of the places 0 to n a test holds of.
use Rattle.std.specs.Prelude.{Bool, ℕ, suc}
use Rattle.num_bytes.specs.Sums.{count_to}

-- How many of the places 0 to n, the numbers below n + 1, a test holds of.
unfoldable pub count_places : ℕ → (ℕ → Bool) → ℕ
count_places n f = count_to (suc n) f

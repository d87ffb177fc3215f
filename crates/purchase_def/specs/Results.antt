-- What the call over meters to buy hands over, as the definitions speak of it.
use Rattle.std.specs.Prelude.{List, ℕ}

-- 0, how many streams are to be metered, their numbers in rising order with zeros after them, and what they cost together; or a refusal
-- number and zeros.
pub record Bought : Type 0 where
  pub number : ℕ
  pub count : ℕ
  pub streams : List ℕ
  pub price : ℕ

-- What the call hands over, as the definitions speak of it.
use Rattle.std.specs.Prelude.{List, ℕ}

-- 0, how many streams are listed, their numbers and the least cost without each, zeros after them; or a refusal number and zeros.
pub record Visits : Type 0 where
  pub number : ℕ
  pub count : ℕ
  pub streams : List ℕ
  pub costs : List ℕ

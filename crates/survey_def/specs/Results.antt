-- What the survey hands over, as the definitions speak of it.
use Rattle.std.specs.Prelude.{List, ℕ}

-- 0, how many streams there are, and for each k from 0 to that number how many choices of k metered streams leave none withheld, 0 past
-- it; or a refusal number and zeros.
pub record Layouts : Type 0 where
  pub number : ℕ
  pub count : ℕ
  pub counts : List ℕ

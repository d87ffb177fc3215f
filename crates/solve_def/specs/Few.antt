-- How few improvements and stuck searches there are; and what is said of a count of the improvements.
use Rattle.std.specs.Prelude.{◌≡◌, List, ℕ, ◌≤◌}
use Rattle.plant_def.specs.declared.Stream.{Stream}
use Rattle.solve_def.specs.Sizes.{most_tried}
use Rattle.solve_def.specs.declared.State.{State}
use Rattle.solve_def.specs.Model.{excess_sum}
use Rattle.solve_def.specs.Made.{made, stuck}

-- The most improvements: the first phase makes 357 at most, each of the 29 others 6,335.
abbrev pub most_made : ℕ
most_made = 184072

-- The most stuck searches: 32 at most in each of the 30 phases.
abbrev pub most_stuck : ℕ
most_stuck = 960

-- Of a call from amounts settled at a hint; where the hint is of use, no more than is over.
pub record Few (ss : List Stream) (st : State) : Type 0 where
  pub improvements : made ss st ≤ most_made
  pub searches : stuck ss st ≤ most_stuck
  pub hinted : excess_sum st.nets ≤ most_tried → made ss st ≤ most_tried

-- A count m of the improvements of such a call: it is what the definition counts, and so it is small.
pub record Effort (ss : List Stream) (st : State) (m : ℕ) : Type 0 where
  pub counted : m ≡ made ss st
  pub few : m ≤ most_made
  pub hinted : excess_sum st.nets ≤ most_tried → m ≤ most_tried

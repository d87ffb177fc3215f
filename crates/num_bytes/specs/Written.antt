-- An array that a loop writes.
use Rattle.std.specs.Prelude.{◌≡◌, List, ℕ, ◌≤◌, ◌<◌, length, get_or}

-- The first u elements are f's values, the others are as they were. (d is read past the end.)
pub record Written {A : Type 0} (d : A) (n : ℕ) (f : ℕ → A → A) (before now : List A) (u : ℕ) : Type 0 where
  pub long : length now ≡ n
  pub done : (k : ℕ) → k < u → get_or now k d ≡ f k (get_or before k d)
  pub rest : (k : ℕ) → u ≤ k → get_or now k d ≡ get_or before k d

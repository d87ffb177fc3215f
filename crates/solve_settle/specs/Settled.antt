-- The amount of a metered stream by its row.
use Rattle.std.specs.Prelude.{◌≡◌, List, ℕ, ◌+◌, ◌*◌, get_or}
use Rattle.solve_def.specs.Model.{clamped, nearest_amount}

-- The reading in row i is R.
abbrev pub RowReads : List ℕ → ℕ → ℕ → Type 0
RowReads rs i R = get_or rs (4 * i + 1) 0 ≡ 2 * (get_or rs (4 * i) 0 * R)

-- The amount of row i with the reading R, at the potentials of the stream's ends.
abbrev pub settled_row : List ℕ → ℕ → ℕ → ℕ → ℕ → ℕ
settled_row rs i R pu pv = clamped (get_or rs (4 * i + 2) 0) (get_or rs (4 * i + 3) 0) (nearest_amount (get_or rs (4 * i) 0) R pu pv)

-- What the contracts of the equations cite: their size, and what a change of a place is found by.
use Rattle.std.specs.Prelude.{List, ℕ, zero, suc, ◌+◌, ◌*◌, ◌≤◌, length, get_or, Float}
use Rattle.std.specs.Float.{nan, binary64}
use Rattle.std.specs.Float.Ieee.{sub, mul, div, lt, of_bits}
use Rattle.num_bytes.specs.Choice.{pick}
use Rattle.plant_def.specs.Limits.{places}
use Rattle.newton_laplacian.specs.Ends.{Placed, Gathered}

-- The numbers that a row takes: a right-hand side, and a coefficient for each place.
abbrev pub width : ℕ
width = suc places

-- A list that the equations of n places fit in.
abbrev pub Fits : ℕ → List Float → Type 0
Fits n a = n * width ≤ length a

-- The right-hand side of row k, less the coefficients of the first j places times their changes.
unfoldable pub rest_to : List Float → List Float → ℕ → ℕ → Float
rest_to a xs k zero = get_or a (k * width) nan
rest_to a xs k (suc j) = sub binary64 (rest_to a xs k j) (mul binary64 (get_or a (k * width + 1 + j) nan) (get_or xs j nan))

-- The change of place k, by its pivot; 0 where that is below the least one.
abbrev pub change_at : Float → List Float → List Float → ℕ → Float
change_at least a xs k =
    let pivot = get_or a (k * width + 1 + k) nan in
    pick (lt pivot least) (of_bits binary64 0) (div binary64 (rest_to a xs k k) pivot)

-- A list that streams with such groups can be joined in.
abbrev pub Joinable : List ℕ → List ℕ → List ℕ → List Float → Type 0
Joinable gs ls rs a = (n : ℕ) × Placed n gs ls rs × Fits n a

-- The same of the first count streams gathered, whose groups are among some number of places.
abbrev pub Joining : List ℕ → List Float → ℕ → List Float → Type 0
Joining es ms count a = (n : ℕ) × Gathered n es ms count × Fits n a

-- What the numbers of a meter come to: reals as IEEE 754 has them (lib.Ieee), each operation rounded once.
use Rattle.std.specs.Prelude.{List, ℕ, ◌+◌, ◌*◌, get_or, Float}
use Rattle.std.specs.Float.{nan, binary64}
use Rattle.std.specs.Float.Ieee.{add, mul, lt}
use Rattle.num_bytes.specs.Choice.{pick}

-- Of the four numbers of stream k: its conductance.
abbrev pub conductance : List Float → ℕ → Float
conductance ms k = get_or ms (4 * k + 1) nan

-- Its amount between potentials that differ by climb: the reading, and climb times the conductance.
abbrev pub amount_by : List Float → ℕ → Float → Float
amount_by ms k climb = add binary64 (get_or ms (4 * k) nan) (mul binary64 climb (conductance ms k))

-- An amount brought into its range: the low end where it is below it, the high end where it is above that.
abbrev pub brought_in : List Float → ℕ → Float → Float
brought_in ms k x =
    let low = get_or ms (4 * k + 2) nan in
    let high = get_or ms (4 * k + 3) nan in
    pick (lt x low) low (pick (lt high x) high x)

-- A stream's row as real numbers: reals as IEEE 754 has them (lib.Ieee), each operation rounded once.
use Rattle.std.specs.Prelude.{Bool, false, ◌||◌, List, ℕ, zero, suc, ◌+◌, ◌-◌, ◌*◌, ◌≤◌, ltb, pos, get_or, Float}
use Rattle.std.specs.Float.{binary64}
use Rattle.std.specs.Float.Ieee.{neg, sub, mul, div, of_int, of_bits}
use Rattle.num_bytes.specs.Choice.{pick}
use Rattle.solve_def.specs.Sizes.{flow_shift, most_flow, most_reading}
use Rattle.solve_arcs.specs.ArcNeeds.{Row}

-- Twice the least reading as it is held.
abbrev pub least_read : ℕ
least_read = 2 * (flow_shift - most_reading)

-- Twice the greatest reading as it is held.
abbrev pub most_read : ℕ
most_read = 2 * (flow_shift + most_reading)

-- A row whose reading is within its limits.
pub record Read (rs : List ℕ) (k : ℕ) : Type 0 where
  pub row : Row rs k
  pub least : get_or rs (4 * k) 0 * least_read ≤ get_or rs (4 * k + 1) 0
  pub most : get_or rs (4 * k + 1) 0 ≤ get_or rs (4 * k) 0 * most_read

-- A whole number as a float of 64 bits.
abbrev pub real : ℕ → Float
real n = of_int binary64 (pos n)

-- One half, as a float of 64 bits.
abbrev pub half : Float
half = of_bits binary64 4602678819172646912

-- Half, by the weight.
abbrev pub conductance_of : List ℕ → ℕ → Float
conductance_of rs k = div binary64 half (real (get_or rs (4 * k) 0))

-- Twice the weight times what the reading is more than the least one, times the conductance c; less what the least one is below 0.
abbrev pub reading_by : List ℕ → ℕ → Float → Float
reading_by rs k c = sub binary64 (mul binary64 (real (get_or rs (4 * k + 1) 0 - get_or rs (4 * k) 0 * least_read)) c) (real most_reading)

-- Whether a stream has a range: its greatest amount is below the most that is held.
abbrev pub ranged : List ℕ → ℕ → Bool
ranged rs k = ltb (get_or rs (4 * k + 3) 0) most_flow

-- The low end of a stream's range; where it has none, as far below 0, which no amount comes to.
abbrev pub low_end : Float → List ℕ → ℕ → Float
low_end far rs k = pick (ranged rs k) (sub binary64 (real (get_or rs (4 * k + 2) 0)) (real flow_shift)) (neg far)

-- The high end of a stream's range; where it has none, far, which no amount comes to.
abbrev pub high_end : Float → List ℕ → ℕ → Float
high_end far rs k = pick (ranged rs k) (sub binary64 (real (get_or rs (4 * k + 3) 0)) (real flow_shift)) far

-- Some of the first n streams has a range.
unfoldable pub ranged_to : List ℕ → ℕ → Bool
ranged_to rs zero = false
ranged_to rs (suc k) = ranged_to rs k || ranged rs k

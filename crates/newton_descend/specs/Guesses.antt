-- A guess at an overfull set, as bits of groups: reals as IEEE 754 has them (lib.Ieee), each operation rounded once.
use Rattle.std.specs.Prelude.{ℕ, zero, suc, ◌+◌, ◌*◌, ◌^◌, Bool, List, bit_or, slice_index, slice_index_or, Float}
use Rattle.std.specs.Float.{nan, binary64}
use Rattle.std.specs.Float.Ieee.{neg, add, div, lt}
use Rattle.num_bytes.specs.Choice.{pick}
use Rattle.num_bytes.specs.Inner.{values}
use Rattle.num_bytes.specs.Sums.{bit}
use Rattle.plant_def.specs.Limits.{places}
use Rattle.newton_laplacian.specs.Readings.{half}
use Rattle.newton_descend.specs.Nets.{none, highest_to}
use Rattle.newton_descend.specs.Descents.{two}

-- The second where it is less, else the first.
abbrev pub smaller : Float → Float → Float
smaller a b = pick (lt b a) b a

-- The least of the first n, 0 at most.
unfoldable pub lowest_to : List Float → ℕ → Float
lowest_to xs zero = none
lowest_to xs (suc n) = smaller (lowest_to xs n) (slice_index_or xs n nan)

-- Halfway between the greatest and the least of n changes and of 0.
abbrev pub halfway_of : List Float → ℕ → Float
halfway_of ws n = div binary64 (add binary64 (highest_to ws n) (lowest_to ws n)) two

-- Of the first n numbers those that pass a test, as bits.
unfoldable pub set_to : (ℕ → Bool) → ℕ → ℕ
set_to test zero = 0
set_to test (suc n) = bit_or (set_to test n) (pick (test n) (2 ^ n) 0)

-- Whether a change is less than that.
abbrev pub falls : List Float → Float → ℕ → Bool
falls ws middle u = lt (slice_index_or ws u nan) middle

-- Of n groups those whose change is below halfway, as bits.
abbrev pub fallen_of : List Float → ℕ → ℕ
fallen_of ws n = set_to (falls ws (halfway_of ws n)) n

-- What a stream brings into a set at least: its low where it comes in, less its high where it goes out, else nothing.
abbrev pub least_into : Bool → Bool → Float → Float → Float
least_into start end low high = pick start (pick end none (neg high)) (pick end low none)

-- The same of stream k, the set being the groups whose bits are set.
abbrev pub into_at : List ℕ → List Float → ℕ → ℕ → Float
into_at es ms bits k = least_into (bit (slice_index es (2 * k)) bits) (bit (slice_index es (2 * k + 1)) bits) (slice_index_or ms (4 * k + 2) nan) (slice_index_or ms (4 * k + 3) nan)

-- What the first n streams bring into it at least, summed first to last.
unfoldable pub into_to : List ℕ → List Float → ℕ → ℕ → Float
into_to es ms bits zero = none
into_to es ms bits (suc n) = add binary64 (into_to es ms bits n) (into_at es ms bits n)

-- Whether that is more than nothing: as amounts are whole, by more than a half.
abbrev pub crowded_by : List ℕ → List Float → ℕ → ℕ → Bool
crowded_by es ms count bits = lt half (into_to es ms bits count)

-- The groups that fall along a direction, where that holds of them; else 0.
abbrev pub guess_by : List ℕ → List Float → ℕ → List Float → ℕ → ℕ
guess_by es ms count ws n = pick (crowded_by es ms count (fallen_of ws n)) (fallen_of ws n) 0

-- The places whose labels are in a set, as bits.
abbrev pub places_of : ℕ → List ℕ → ℕ
places_of bits ls = set_to (λ u. bit (slice_index ls u) bits) places

-- The marks of a set.
abbrev pub marks_of : ℕ → List Bool
marks_of bits = values places (λ u. bit u bits)

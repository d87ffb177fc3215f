-- Nets at potentials, their size, and the slope along a direction: reals as IEEE 754 has them (lib.Ieee), each operation rounded once.
use Rattle.std.specs.Prelude.{ℕ, zero, suc, ◌+◌, ◌*◌, List, set, replicate, from_bits, slice_index, slice_index_or, slice_set, Float}
use Rattle.std.specs.Float.{nan, binary64}
use Rattle.std.specs.Float.Ieee.{neg, add, sub, mul, lt}
use Rattle.num_bytes.specs.Choice.{pick}
use Rattle.plant_def.specs.Limits.{places}
use Rattle.newton_laplacian.specs.Amounts.{amount_by, brought_in}

-- 0.
abbrev pub none : Float
none = from_bits binary64 0

-- The second where it is greater, else the first.
abbrev pub larger : Float → Float → Float
larger a b = pick (lt a b) b a

-- The greatest of the first n, 0 at least.
unfoldable pub highest_to : List Float → ℕ → Float
highest_to xs zero = none
highest_to xs (suc n) = larger (highest_to xs n) (slice_index_or xs n nan)

-- The greatest size of the first n.
unfoldable pub greatest_to : List Float → ℕ → Float
greatest_to zs zero = none
greatest_to zs (suc n) = larger (larger (greatest_to zs n) (slice_index_or zs n nan)) (neg (slice_index_or zs n nan))

-- The sum of the products of the first n, first to last.
unfoldable pub product_to : List Float → List Float → ℕ → Float
product_to xs ys zero = none
product_to xs ys (suc n) = add binary64 (product_to xs ys n) (mul binary64 (slice_index_or xs n nan) (slice_index_or ys n nan))

-- The first n of rs are potentials moved along a direction by the factor t.
unfoldable pub moved_to : List Float → List Float → Float → List Float → ℕ → List Float
moved_to ps ws t rs zero = rs
moved_to ps ws t rs (suc n) = slice_set (moved_to ps ws t rs n) n (add binary64 (slice_index_or ps n nan) (mul binary64 t (slice_index_or ws n nan)))

-- What stream k carries between the potentials of its groups.
abbrev pub carried : List ℕ → List Float → List Float → ℕ → Float
carried es ms ps k = brought_in ms k (amount_by ms k (sub binary64 (slice_index_or ps (slice_index es (2 * k + 1)) nan) (slice_index_or ps (slice_index es (2 * k)) nan)))

-- An amount x leaves group g and comes to group h.
abbrev pub brought_to : List Float → ℕ → ℕ → Float → List Float
brought_to zs g h x =
    let left = set zs g (sub binary64 (slice_index_or zs g nan) x) in
    slice_set left h (add binary64 (slice_index_or left h nan) x)

-- What stream k carries is brought from the group of its start to that of its end.
abbrev pub brought : List ℕ → List Float → List Float → ℕ → List Float → List Float
brought es ms ps k zs = brought_to zs (slice_index es (2 * k)) (slice_index es (2 * k + 1)) (carried es ms ps k)

-- The nets by the first n streams.
unfoldable pub nets_to : List ℕ → List Float → List Float → ℕ → List Float
nets_to es ms ps zero = replicate places none
nets_to es ms ps (suc k) = brought es ms ps k (nets_to es ms ps k)

-- Flows of a plant: balance, ranges, cost, and the cheapest balanced flow in range.
use Rattle.std.specs.Prelude.{◌≡◌, Bool, true, false, not, ◌&&◌, ◌||◌, List, [], ◌∷◌, ◌++◌, ℤ, pos, neg_ℤ, ◌+ℤ◌, ◌-ℤ◌, ◌*ℤ◌, nat_abs, ℕ, zero, suc, ◌+◌, ◌*◌, ◌≤◌, eqb, length, get_or}
use Rattle.std.specs.Int.Signed.{lt_z, le_z}
use Rattle.num_bytes.specs.Choice.{pick}
use Rattle.plant_def.specs.declared.Stream.{Stream}
use Rattle.plant_def.specs.Plants.{Plant, no_stream, limited}

-- Stream k of a list, counted from 0.
abbrev pub stream_at : List Stream → ℕ → Stream
stream_at ss k = get_or ss k no_stream

-- The amount of stream k, counted from 0.
abbrev pub amount_at : List ℤ → ℕ → ℤ
amount_at xs k = get_or xs k (pos 0)

-- A flow gives each stream a signed amount. The net of a place (a row of the incidence matrix times the flow): what comes in
-- less what goes out.
abbrev pub net_at : ℕ → List Stream → List ℤ → ℤ
net_at u [] xs = pos 0
net_at u (s ∷ ss) [] = pos 0
net_at u (s ∷ ss) (x ∷ xs) = pick (eqb s.to u) x (pos 0) +ℤ (pick (eqb s.from u) (neg_ℤ x) (pos 0) +ℤ net_at u ss xs)

-- The net is 0 at each of the units 1 to n.
abbrev pub balanced_to : ℕ → List Stream → List ℤ → Bool
balanced_to zero ss xs = true
balanced_to (suc u) ss xs = eqb (nat_abs (net_at (suc u) ss xs)) 0 && balanced_to u ss xs

-- A flow balances when it has an amount for each stream and its nets are 0. A flow in fractions is stated as whole amounts
-- over one denominator, which balance alike.
abbrev pub balanced : Plant → List ℤ → Bool
balanced p xs = eqb (length xs) (length p.streams) && balanced_to p.units p.streams xs

-- An amount over d is in the range of a stream from d × low to d × high; without a range, always.
abbrev pub in_range : ℕ → Stream → ℤ → Bool
in_range d s x = not (limited s) || (le_z (pos d *ℤ s.low) x && le_z x (pos d *ℤ s.high))

-- Every amount over d is in the range of its stream.
abbrev pub in_ranges : ℕ → List Stream → List ℤ → Bool
in_ranges d [] xs = true
in_ranges d (s ∷ ss) [] = true
in_ranges d (s ∷ ss) (x ∷ xs) = in_range d s x && in_ranges d ss xs

-- A flow over d that balances and lies within all ranges.
abbrev pub allowed_over : ℕ → Plant → List ℤ → Bool
allowed_over d p xs = balanced p xs && in_ranges d p.streams xs

-- The whole-number flows among which the cheapest is taken.
abbrev pub allowed : Plant → List ℤ → Bool
allowed p xs = allowed_over 1 p xs

-- The square of a signed number, as an unsigned one.
abbrev pub square : ℤ → ℕ
square z = nat_abs z * nat_abs z

-- The sum over the metered streams of weight times correction squared, the amounts and the readings being over d:
-- d squared times the cost of a flow in fractions.
abbrev pub cost_over : ℕ → List Stream → List ℤ → ℕ
cost_over d [] xs = 0
cost_over d (s ∷ ss) [] = 0
cost_over d (s ∷ ss) (x ∷ xs) = pick s.metered (s.weight * square (x -ℤ pos d *ℤ s.reading)) 0 + cost_over d ss xs

-- The cost (weighted least squares), in thousandths.
abbrev pub cost : List Stream → List ℤ → ℕ
cost ss xs = cost_over 1 ss xs

-- The amounts of the metered streams, first to last.
abbrev pub metered_of : List Stream → List ℤ → List ℤ
metered_of [] xs = []
metered_of (s ∷ ss) [] = []
metered_of (s ∷ ss) (x ∷ xs) = pick s.metered (x ∷ []) [] ++ metered_of ss xs

-- Two balanced flows, whole or over one denominator, that agree on all metered streams.
pub record Agree (p : Plant) (ys zs : List ℤ) : Type 0 where
  pub first : balanced p ys ≡ true
  pub second : balanced p zs ≡ true
  pub metered : metered_of p.streams ys ≡ metered_of p.streams zs

-- The lexicographic order: the first list is not after the second.
abbrev pub not_after : List ℤ → List ℤ → Bool
not_after [] ys = true
not_after (x ∷ xs) [] = false
not_after (x ∷ xs) (y ∷ ys) = lt_z x y || (le_z x y && not_after xs ys)

-- A flow of least cost: a balanced whole-number flow within all ranges that no other undercuts.
pub record OfLeastCost (p : Plant) (xs : List ℤ) : Type 0 where
  pub balance : allowed p xs ≡ true
  pub least : (ys : List ℤ) → allowed p ys ≡ true → cost p.streams xs ≤ cost p.streams ys

-- The cheapest flow: of least cost among all balanced whole-number flows within all ranges; among these, the one whose first
-- metered stream is least, then the second, and so on.
pub record Cheapest (p : Plant) (xs : List ℤ) : Type 0 where
  pub balance : allowed p xs ≡ true
  pub least : (ys : List ℤ) → allowed p ys ≡ true → cost p.streams xs ≤ cost p.streams ys
  pub tie : (ys : List ℤ) → allowed p ys ≡ true → cost p.streams ys ≡ cost p.streams xs
      → not_after (metered_of p.streams xs) (metered_of p.streams ys) ≡ true

-- What a meter shows that no balance corrects: the nearest value in range to its reading.
abbrev pub nearest : Stream → ℤ
nearest s =
    pick (limited s && lt_z s.reading s.low) s.low
    (pick (limited s && lt_z s.high s.reading) s.high s.reading)

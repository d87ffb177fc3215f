-- Calls of the check with their answers: a plant of the heaviest weights, one that sees a range at its end, and the faults in their order.
use mathlib.Core.Path.{◌≡◌, refl}
use mathlib.Core.List.{List, [], ◌∷◌}
use lib.IntN.{ℤ, pos, negsuc}
use Prim.Native.Nat.{ℕ}
use Rattle.plant_parts.specs.Parts.{Slices}
use Rattle.certify_def.specs.Test.{flow_number}

-- The listing's plant: 100 into unit 1, two pipes to unit 2, 98 out of it, with one weight for both meters.
abbrev listing : ℕ → Slices
listing w = record {
  from = 0 ∷ 1 ∷ 1 ∷ 2 ∷ [];
  to = 1 ∷ 2 ∷ 2 ∷ 0 ∷ [];
  metered = 1 ∷ 0 ∷ 0 ∷ 1 ∷ [];
  weight = w ∷ 0 ∷ 0 ∷ w ∷ [];
  reading = pos 100 ∷ pos 0 ∷ pos 0 ∷ pos 98 ∷ [];
  ranged = 0 ∷ 0 ∷ 0 ∷ 0 ∷ [];
  low = pos 0 ∷ pos 0 ∷ pos 0 ∷ pos 0 ∷ [];
  high = pos 0 ∷ pos 0 ∷ pos 0 ∷ pos 0 ∷ [];
}

abbrev flow : List ℤ
flow = pos 99 ∷ pos 50 ∷ pos 49 ∷ pos 99 ∷ []

-- With weights of 2^40 three weights below the outside is the least number that passes.
heaviest : flow_number 2 4 (listing 1099511627776) flow (pos 0 ∷ negsuc 3298534883327 ∷ negsuc 3298534883327 ∷ []) ≡ 0
heaviest = refl

one_lower : flow_number 2 4 (listing 1099511627776) flow (pos 0 ∷ negsuc 3298534883328 ∷ negsuc 3298534883328 ∷ []) ≡ 26
one_lower = refl

-- Not with numbers that differ along a pipe, nor a flow that does not balance, nor a dearer one with these numbers.
unequal : flow_number 2 4 (listing 10) flow (pos 0 ∷ negsuc 29 ∷ negsuc 28 ∷ []) ≡ 26
unequal = refl

unbalanced : flow_number 2 4 (listing 10) (pos 99 ∷ pos 50 ∷ pos 50 ∷ pos 99 ∷ []) (pos 0 ∷ negsuc 29 ∷ negsuc 29 ∷ []) ≡ 26
unbalanced = refl

dearer : flow_number 2 4 (listing 10) (pos 97 ∷ pos 50 ∷ pos 47 ∷ pos 97 ∷ []) (pos 0 ∷ negsuc 29 ∷ negsuc 29 ∷ []) ≡ 26
dearer = refl

-- A pipe may carry 2^55, and no more.
largest : flow_number 2 4 (listing 10) (pos 99 ∷ pos 36028797018963968 ∷ negsuc 36028797018963868 ∷ pos 99 ∷ []) (pos 0 ∷ negsuc 29 ∷ negsuc 29 ∷ []) ≡ 0
largest = refl

larger : flow_number 2 4 (listing 10) (pos 99 ∷ pos 36028797018963969 ∷ negsuc 36028797018963869 ∷ pos 99 ∷ []) (pos 0 ∷ negsuc 29 ∷ negsuc 29 ∷ []) ≡ 26
larger = refl

-- One stream in and one out, read as 10 and 14, of which the first has a range up to 11: at its high end the top is excused.
abbrev ranged : ℤ → ℤ → Slices
ranged low high = record {
  from = 0 ∷ 1 ∷ [];
  to = 1 ∷ 0 ∷ [];
  metered = 1 ∷ 1 ∷ [];
  weight = 1 ∷ 1 ∷ [];
  reading = pos 10 ∷ pos 14 ∷ [];
  ranged = 1 ∷ 0 ∷ [];
  low = low ∷ pos 0 ∷ [];
  high = high ∷ pos 0 ∷ [];
}

at_high : flow_number 1 2 (ranged (pos 0) (pos 11)) (pos 11 ∷ pos 11 ∷ []) (pos 0 ∷ pos 5 ∷ []) ≡ 0
at_high = refl

below_high : flow_number 1 2 (ranged (pos 0) (pos 12)) (pos 11 ∷ pos 11 ∷ []) (pos 0 ∷ pos 5 ∷ []) ≡ 26
below_high = refl

past_high : flow_number 1 2 (ranged (pos 0) (pos 10)) (pos 11 ∷ pos 11 ∷ []) (pos 0 ∷ pos 5 ∷ []) ≡ 26
past_high = refl

-- At its low end the bottom is.
at_low : flow_number 1 2 (ranged (pos 13) (pos 20)) (pos 13 ∷ pos 13 ∷ []) (pos 0 ∷ pos 1 ∷ []) ≡ 0
at_low = refl

-- The faults in their order: slices too short, units, then the first stream that has one (weight 0 here, and not the second stream, past the units).
too_short : flow_number 0 5 (listing 0) flow [] ≡ 1
too_short = refl

few_numbers : flow_number 2 4 (listing 10) flow (pos 0 ∷ pos 0 ∷ []) ≡ 1
few_numbers = refl

no_units : flow_number 0 4 (listing 0) flow (pos 0 ∷ []) ≡ 6
no_units = refl

first_stream : flow_number 1 4 (listing 0) flow (pos 0 ∷ pos 0 ∷ []) ≡ 9
first_stream = refl

too_heavy : flow_number 2 4 (listing 1099511627777) flow (pos 0 ∷ pos 0 ∷ pos 0 ∷ []) ≡ 9
too_heavy = refl

turned_round : flow_number 1 2 (ranged (pos 12) (pos 11)) (pos 11 ∷ pos 11 ∷ []) (pos 0 ∷ pos 5 ∷ []) ≡ 18
turned_round = refl

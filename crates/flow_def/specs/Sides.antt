-- The streams that join two groups, in one pass over the streams. Each takes a label away, the higher one of its ends, and bit h
-- of a place's sides tells on which side of the stream that took label h away the place lies.
use Rattle.std.specs.Prelude.{List, ℕ, zero, suc, ◌^◌, max, eqb, get_or, replicate}
use Rattle.std.specs.Int.Bits.{bit_or, bit_xor}
use Rattle.num_bytes.specs.Choice.{pick}
use Rattle.plant_def.specs.declared.Stream.{Stream}
use Rattle.plant_def.specs.Limits.{places}
use Rattle.flow_def.specs.Flows.{stream_at}
use Rattle.num_bytes.specs.Inner.{values}
use Rattle.flow_def.specs.Chains.{unmetered_only}
use Rattle.flow_def.specs.Labels.{labels_after, one_label}

-- The label that a stream takes away, 0 where it takes none.
abbrev pub taken_by : List ℕ → Stream → ℕ
taken_by ls s = pick s.metered 0 (pick (one_label ls s.from s.to) 0 (max (get_or ls s.from 0) (get_or ls s.to 0)))

-- How the sides of two places differ: by the streams on the way between them.
abbrev pub way_between : List ℕ → Stream → ℕ
way_between sides s = bit_xor (get_or sides s.from 0) (get_or sides s.to 0)

-- The streams that lie on a loop with an unmetered stream whose ends earlier ones join.
abbrev pub looped_by : List ℕ → List ℕ → Stream → ℕ
looped_by ls sides s = pick s.metered 0 (pick (one_label ls s.from s.to) (way_between sides s) 0)

-- The places labelled h change sides.
abbrev pub turned : ℕ → ℕ → List ℕ → List ℕ → List ℕ
turned h by ls sides = values places (λ u. pick (eqb (get_or ls u 0) h) (bit_xor (get_or sides u 0) by) (get_or sides u 0))

-- A stream that takes label h away.
abbrev pub parted : ℕ → List ℕ → Stream → List ℕ → List ℕ
parted h ls s sides = pick (eqb h 0) sides (turned h (bit_xor (way_between sides s) (2 ^ h)) ls sides)

-- The label that stream k takes away, 0 where it takes none.
abbrev pub taken_at : List Stream → ℕ → ℕ
taken_at ss k = taken_by (labels_after unmetered_only ss k) (stream_at ss k)

-- The sides of the places after k streams.
unfoldable pub sides_after : List Stream → ℕ → List ℕ
sides_after ss zero = replicate places 0
sides_after ss (suc k) = parted (taken_at ss k) (labels_after unmetered_only ss k) (stream_at ss k) (sides_after ss k)

-- The streams found on a loop after k streams: bit h for the one that took label h away; bit 0 is set from the start.
unfoldable pub looped_after : List Stream → ℕ → ℕ
looped_after ss zero = 1
looped_after ss (suc k) = bit_or (looped_after ss k) (looped_by (labels_after unmetered_only ss k) (sides_after ss k) (stream_at ss k))

-- Groups of places, the four classes of stream, the number of a given stream, degrees of freedom.
use Rattle.std.specs.Prelude.{Bool, true, false, ◌&&◌, ◌||◌, not, List, [], ◌∷◌, ℤ, pos, neg_ℤ, ◌+ℤ◌, ℕ, zero, suc, ◌+◌, ◌-◌, eqb, leb}
use Rattle.num_bytes.specs.Choice.{pick}
use Rattle.plant_def.specs.declared.Stream.{Stream}
use Rattle.plant_def.specs.Plants.{Plant}
use Rattle.flow_def.specs.declared.Class.{Class}
use Rattle.flow_def.specs.declared.Class.TheVariants.{Adjusted, AsRead, Given, Withheld}
use Rattle.flow_def.specs.Flows.{stream_at, amount_at}
use Rattle.flow_def.specs.Chains.{Counting, every_stream, unmetered_only}

-- Place u is in a set of places, held as a list.
abbrev pub has : ℕ → List ℕ → Bool
has u [] = false
has u (v ∷ vs) = eqb u v || has u vs

-- The set with place u in it.
abbrev pub including : ℕ → List ℕ → List ℕ
including u vs = pick (has u vs) vs (u ∷ vs)

-- One round over the streams that count: a stream with an end in the set brings in its other end. i is the first one's number.
abbrev pub spread : Counting → ℕ → List Stream → List ℕ → List ℕ
spread counts i [] seen = seen
spread counts i (s ∷ ss) seen =
    spread counts (suc i) ss
    (pick (counts i s && (has s.from seen || has s.to seen)) (including s.from (including s.to seen)) seen)

-- So many rounds, one after the other.
abbrev pub rounds : ℕ → Counting → List Stream → List ℕ → List ℕ
rounds zero counts ss seen = seen
rounds (suc l) counts ss seen = rounds l counts ss (spread counts 0 ss seen)

-- The places joined to u by a chain of streams that count, followed in either direction: a round for each place.
abbrev pub joined_to : Counting → Plant → ℕ → List ℕ
joined_to counts p u = rounds (suc p.units) counts p.streams (u ∷ [])

-- All unmetered streams but one count.
abbrev pub unmetered_but : ℕ → Counting
unmetered_but e i s = not s.metered && not (eqb i e)

-- Two places are in one group: a chain of unmetered streams joins them.
abbrev pub one_group : Plant → ℕ → ℕ → Bool
one_group p u v = has v (joined_to unmetered_only p u)

-- An unmetered stream lies on a loop of unmetered streams: its ends are joined without it.
abbrev pub on_loop : Plant → ℕ → Bool
on_loop p i = let s = stream_at p.streams i in has s.to (joined_to (unmetered_but i) p s.from)

-- The class of stream i, from 0.
-- A, adjusted (a redundant meter): metered, its ends in different groups.
-- R, as read (a non-redundant meter): metered, its ends in one group.
-- G, given (observable): unmetered, forced by the meters. W, withheld (unobservable): unmetered, on a loop.
abbrev pub class_of : Plant → ℕ → Class
class_of p i =
    let s = stream_at p.streams i in
    pick s.metered (pick (one_group p s.from s.to) AsRead Adjusted) (pick (on_loop p i) Withheld Given)

-- What the metered streams take out of a set of places, less what they bring in.
abbrev pub side_out : List ℕ → List Stream → List ℤ → ℤ
side_out side [] xs = pos 0
side_out side (s ∷ ss) [] = pos 0
side_out side (s ∷ ss) (x ∷ xs) =
    pick (s.metered && has s.from side) x (pos 0)
    +ℤ (pick (s.metered && has s.to side) (neg_ℤ x) (pos 0) +ℤ side_out side ss xs)

-- The number of a given stream: what the places beyond it, joined without it, pass on by the metered streams.
abbrev pub given_of : Plant → ℕ → List ℤ → ℤ
given_of p i xs = side_out (joined_to (unmetered_but i) p (stream_at p.streams i).to) p.streams xs

-- A stream's number: its amount where it is metered, the given one where it is not.
abbrev pub number_of : Plant → List ℤ → ℕ → ℤ
number_of p xs i = pick (stream_at p.streams i).metered (amount_at xs i) (given_of p i xs)

-- Place u is not above any place of a list.
abbrev pub lowest : ℕ → List ℕ → Bool
lowest u [] = true
lowest u (v ∷ vs) = leb u v && lowest u vs

-- How many of the places 0 to n are the lowest of their set.
abbrev pub leaders_to : Counting → Plant → ℕ → ℕ
leaders_to counts p zero = 1
leaders_to counts p (suc u) = pick (lowest (suc u) (joined_to counts p (suc u))) 1 0 + leaders_to counts p u

-- Degrees of freedom: the number of groups less the number of connected pieces.
abbrev pub degrees : Plant → ℕ
degrees p = leaders_to unmetered_only p p.units - leaders_to every_stream p p.units

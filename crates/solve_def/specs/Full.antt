-- The test of a set of places: it must take in more than it can let out, by the ranges of the streams across its edge.
use Rattle.std.specs.Prelude.{Bool, true, false, ◌&&◌, List, ℕ, zero, suc, ◌+◌, ◌-◌, ◌*◌, ltb, length, get_or}
use Rattle.plant_def.specs.declared.Stream.{Stream}
use Rattle.num_bytes.specs.Choice.{pick}
use Rattle.flow_def.specs.Flows.{stream_at}
use Rattle.flow_def.specs.Overfull.{unmarked}
use Rattle.solve_def.specs.declared.Halt.{Halt}
use Rattle.solve_def.specs.Sizes.{flow_shift, most_flow}
use Rattle.solve_def.specs.Held.{low_of, high_of}

-- Whether a stream may stand across the edge of a set: one with a range, whose least amount as held is above 0, or one that does not
-- cross it. a and b tell whether its start and its end are in the set.
abbrev pub may_cross : Bool → Bool → ℕ → Bool
may_cross true true low = true
may_cross true false low = ltb 0 low
may_cross false true low = ltb 0 low
may_cross false false low = true

-- What a stream presses into the set at least, as held: its low where it comes in; less its high where it goes out; else nothing.
abbrev pub pressed : Bool → Bool → ℕ → ℕ → ℕ
pressed true true low high = flow_shift
pressed true false low high = most_flow - high
pressed false true low high = low
pressed false false low high = flow_shift

-- Each of the first n streams may stand across the edge of the set, or does not cross it.
unfoldable pub bounded_to : List Stream → List Bool → ℕ → Bool
bounded_to ss ms zero = true
bounded_to ss ms (suc n) =
    let s = stream_at ss n in
    may_cross (get_or ms s.from false) (get_or ms s.to false) (low_of s) && bounded_to ss ms n

-- What the first n streams press into the set at least, as held, summed.
unfoldable pub pressed_to : List Stream → List Bool → ℕ → ℕ
pressed_to ss ms zero = 0
pressed_to ss ms (suc n) =
    let s = stream_at ss n in
    pressed (get_or ms s.from false) (get_or ms s.to false) (low_of s) (high_of s) + pressed_to ss ms n

-- Every stream across has a range, and the lows in sum to more than the highs out.
abbrev pub overfull : List Stream → List Bool → Bool
overfull ss ms = bounded_to ss ms (length ss) && ltb (length ss * flow_shift) (pressed_to ss ms (length ss))

-- Where no improvement can be made: the visited places, if they are such a set.
abbrev pub halt_at : List Stream → List Bool → Halt
halt_at ss ms = pick (overfull ss ms) (record { full = true; marked = ms }) (record { full = false; marked = unmarked })

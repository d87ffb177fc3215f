-- Plants moved to the ranged form, and home again. Refusal 20 stands after 12.
use Rattle.std.specs.Prelude.{Bool, not, ◌&&◌, ◌||◌, true, false, List, [], ◌∷◌, map, ℤ, pos, neg_ℤ, ℕ, eqb}
use Rattle.std.specs.Int.Signed.{lt_z}
use Rattle.num_bytes.specs.Choice.{pick, refuse_if, first_of}
use Rattle.plant_def.specs.declared.Stream.{Stream}
use Rattle.plant_def.specs.Results.{Done}
use Rattle.plant_def.specs.Limits.{max_range}
use Rattle.plant_def.specs.Plants.{Plant, limited}
use Rattle.plant_def.specs.Files.{Got, bad, got, read_plant}
use Rattle.plant_def.specs.Converts.{Converts}

-- The low end of the widest range that there is.
abbrev pub widest_low : ℤ
widest_low = neg_ℤ (pos max_range)

-- Its high end.
abbrev pub widest_high : ℤ
widest_high = pos max_range

-- Forward: a metered stream without a range gets the widest. Every other stream stays as it is.
abbrev pub widened : Stream → Stream
widened s =
    pick (s.metered && not s.ranged)
    (record { from = s.from; to = s.to; metered = true; weight = s.weight; reading = s.reading; ranged = true; low = widest_low; high = widest_high })
    s

-- Backward: a stream with a range loses it. Every other stream stays as it is.
abbrev pub bared : Stream → Stream
bared s =
    pick (limited s)
    (record { from = s.from; to = s.to; metered = true; weight = s.weight; reading = s.reading; ranged = false; low = pos 0; high = pos 0 })
    s

-- Its range is narrower than the widest: it begins above it, or ends below it.
abbrev pub narrower : Stream → Bool
narrower s = limited s && (lt_z widest_low s.low || lt_z s.high widest_high)

-- Any range is narrower: 20.
abbrev pub narrow_fault : List Stream → ℕ
narrow_fault [] = 0
narrow_fault (s ∷ ss) = first_of (refuse_if (narrower s) 20) (narrow_fault ss)

-- A plant with each of its streams moved.
abbrev pub moved : (Stream → Stream) → Plant → Plant
moved move p = record { units = p.units; streams = map move p.streams }

-- To the ranged form,
abbrev pub forward : Plant → Plant
forward = moved widened

-- and home again.
abbrev pub home : Plant → Plant
home = moved bared

-- The same of what was read, to the ranged form: the reader's refusals.
abbrev pub to_ranged : Got → Got
to_ranged (bad f) = bad f
to_ranged (got p) = got (forward p)

-- Home: the reader's refusals, then 20.
abbrev pub from_ranged : Got → Got
from_ranged (bad f) = bad f
from_ranged (got p) = pick (eqb (narrow_fault p.streams) 0) (got (home p)) (bad (narrow_fault p.streams))

-- The two calls: read as the plant reader does, written as the plant writer does; a slice too short for the longest file is 1,
-- before the file's refusals.
abbrev pub ToSays : List ℕ → List ℕ → List ℕ → Done → Type 0
ToSays file = Converts (to_ranged (read_plant file))

-- The call that moves home.
abbrev pub FromSays : List ℕ → List ℕ → List ℕ → Done → Type 0
FromSays file = Converts (from_ranged (read_plant file))

-- Sets of streams, and a plant with the streams of a set metered too.
use Rattle.std.specs.Prelude.{Bool, true, false, List, [], ◌∷◌, pos, ℕ, get_or}
use Rattle.num_bytes.specs.Choice.{pick}
use Rattle.plant_def.specs.declared.Stream.{Stream}
use Rattle.plant_def.specs.Plants.{Plant}

-- A set of streams: yes or no for each, in stream order. Those past the end are not in it.
abbrev pub chosen : List Bool → ℕ → Bool
chosen set k = get_or set k false

-- A stream with a meter. (What it reads, with what weight, plays no part in what is withheld: the least weight, a reading of 0
-- and no range stand for any.)
abbrev pub meter : Stream → Stream
meter s = record { from = s.from; to = s.to; metered = true; weight = 1; reading = pos 0; ranged = false; low = pos 0; high = pos 0 }

-- The streams of a list, those of a set metered.
abbrev pub meter_all : List Bool → List Stream → List Stream
meter_all [] ss = ss
meter_all (b ∷ set) [] = []
meter_all (b ∷ set) (s ∷ ss) = pick b (meter s) s ∷ meter_all set ss

-- The plant with the streams of a set metered too.
abbrev pub metering : List Bool → Plant → Plant
metering set p = record { units = p.units; streams = meter_all set p.streams }

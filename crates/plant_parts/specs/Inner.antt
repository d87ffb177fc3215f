-- What inner promises and proofs cite, and no public promise.
use Rattle.std.specs.Prelude.{not, false, List, ℤ, pos, ℕ, suc, eqb, length, get_or}
use Rattle.plant_def.specs.declared.Stream.{Stream}
use Rattle.plant_def.specs.Limits.{max_streams}
use Rattle.plant_parts.specs.Parts.{least}

-- The stream at place k, without its range.
abbrev pub meter_at : List ℕ → List ℕ → List ℕ → List ℕ → List ℤ → ℕ → Stream
meter_at fs ts ms ws rs k = record {
  from = get_or fs k 0;
  to = get_or ts k 0;
  metered = not (eqb (get_or ms k 0) 0);
  weight = get_or ws k 0;
  reading = get_or rs k (pos 0);
  ranged = false;
  low = pos 0;
  high = pos 0;
}

-- A stream with the range at place k.
abbrev pub range_at : List ℕ → List ℤ → List ℤ → Stream → ℕ → Stream
range_at qs ls hs s k = record {
  from = s.from;
  to = s.to;
  metered = s.metered;
  weight = s.weight;
  reading = s.reading;
  ranged = not (eqb (get_or qs k 0) 0);
  low = get_or ls k (pos 0);
  high = get_or hs k (pos 0);
}

-- A count in a byte: one over the limit stays over it.
abbrev pub held_count : ℕ → ℕ
held_count c = least c (suc max_streams)

-- How many streams the slices of ends and meters reach.
abbrev pub meters_reach : List ℕ → List ℕ → List ℕ → List ℕ → List ℤ → ℕ
meters_reach fs ts ms ws rs = least (least (length fs) (length ts)) (least (length ms) (least (length ws) (length rs)))

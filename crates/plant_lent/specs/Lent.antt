-- A plant's parts, handed over in eight lent slices, as the exported plant writer takes them.
use Rattle.std.specs.Prelude.{◌≡◌, true, List, map, ℕ, ◌-◌, length}
use Rattle.num_bytes.specs.Choice.{pick}
use Rattle.num_bytes.specs.Bytes.{over}
use Rattle.num_lent.specs.Lending.{Lending}
use Rattle.plant_def.specs.declared.Stream.{Stream}
use Rattle.plant_def.specs.Limits.{max_streams}
use Rattle.plant_def.specs.Files.{Got, bad, got, read_plant}
use Rattle.plant_parts.specs.Parts.{Slices, reaches}

-- The parts of streams at the front of the slices, the rest of each slice as it was: their ends, 1 where one is metered and 0 where it is not,
-- weights, readings, 1 where one has a range and 0 where it has none, the ends of the ranges.
abbrev pub laid : List Stream → Slices → Slices
laid ss p = record {
  from = over (map (λ s. s.from) ss) p.from;
  to = over (map (λ s. s.to) ss) p.to;
  metered = over (map (λ s. pick s.metered 1 0) ss) p.metered;
  weight = over (map (λ s. s.weight) ss) p.weight;
  reading = over (map (λ s. s.reading) ss) p.reading;
  ranged = over (map (λ s. pick s.ranged 1 0) ss) p.ranged;
  low = over (map (λ s. s.low) ss) p.low;
  high = over (map (λ s. s.high) ss) p.high;
}

-- What a reading shows: its number, 0 where it is no refusal; the units, how many streams there are, and the slices. A refusal shows zeros, and
-- the slices as they were.
abbrev pub plant_shown : Slices → Got → ℕ × ℕ × ℕ × Slices
plant_shown p (bad f) = (f, 0, 0, p)
plant_shown p (got q) = (0, q.units, length q.streams, laid q.streams p)

-- The call over eight slices, each to hold as many as there may be streams: what is found after it.
abbrev pub PlantFound : (file : List ℕ) (p : Slices) → ℕ × ℕ × ℕ × Slices → Type 0
PlantFound file p = Lending (reaches p (max_streams - 1) ≡ true) bad (λ g. g ≡ read_plant file) (plant_shown p)

-- What inner promises and proofs cite, and no public promise.
use Rattle.std.specs.Prelude.{◌≡◌, List, map, ℤ, ℕ, ltb, take}
use Rattle.num_bytes.specs.Choice.{pick}
use Rattle.num_bytes.specs.Bytes.{over}
use Rattle.num_bytes.specs.Lent.{LentMut}
use Rattle.plant_def.specs.declared.Stream.{Stream}
use Rattle.plant_def.specs.Limits.{max_streams}
use Rattle.plant_def.specs.Files.{Got, bad, read_plant}

-- The reading, where every slice reaches so many streams: fewer than there may be 1, then the file's own refusals.
abbrev pub read_lent : List ℕ → ℕ → Got
read_lent file n = pick (ltb n max_streams) (bad 1) (read_plant file)

-- The parts of streams: where they begin,
abbrev pub from_of : List Stream → List ℕ
from_of = map (λ s. s.from)

-- where they end,
abbrev pub to_of : List Stream → List ℕ
to_of = map (λ s. s.to)

-- 1 where one is metered, else 0,
abbrev pub metered_of : List Stream → List ℕ
metered_of = map (λ s. pick s.metered 1 0)

-- weights,
abbrev pub weight_of : List Stream → List ℕ
weight_of = map (λ s. s.weight)

-- readings,
abbrev pub reading_of : List Stream → List ℤ
reading_of = map (λ s. s.reading)

-- 1 where one has a range, else 0,
abbrev pub ranged_of : List Stream → List ℕ
ranged_of = map (λ s. pick s.ranged 1 0)

-- the lower ends of the ranges,
abbrev pub low_of : List Stream → List ℤ
low_of = map (λ s. s.low)

-- and the upper ones.
abbrev pub high_of : List Stream → List ℤ
high_of = map (λ s. s.high)

-- A part of the first c streams at the front of a lent slice, the rest of it as it was.
abbrev pub Front : {B : Type 0} → (List Stream → List B) → ℕ → List Stream → LentMut (List B) → Type 0
Front part c ss slice = slice.exit.now ≡ over (part (take c ss)) slice.entry.now

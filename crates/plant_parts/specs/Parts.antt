-- The plant whose streams' parts are handed over in one slice each.
use Rattle.std.specs.Prelude.{Bool, not, ◌&&◌, List, [], ◌∷◌, ◌++◌, ℤ, pos, ℕ, zero, suc, eqb, ltb, length, get_or}
use Rattle.num_bytes.specs.Choice.{pick}
use Rattle.plant_def.specs.declared.Stream.{Stream}
use Rattle.plant_def.specs.Results.{Done}
use Rattle.plant_def.specs.Limits.{max_streams}
use Rattle.plant_def.specs.Plants.{no_stream}
use Rattle.plant_def.specs.Says.{PartsWritten}
use Rattle.num_bytes.specs.Inner.{values}

-- The slices.
pub record Slices : Type 0 where
  pub from : List ℕ
  pub to : List ℕ
  pub metered : List ℕ
  pub weight : List ℕ
  pub reading : List ℤ
  pub ranged : List ℕ
  pub low : List ℤ
  pub high : List ℤ

-- The stream at place k: its two ends, metered unless 0 stands there, its weight, its reading, with a range unless 0 stands
-- there, its low, its high.
abbrev pub parts_at : Slices → ℕ → Stream
parts_at p k = record {
  from = get_or p.from k 0;
  to = get_or p.to k 0;
  metered = not (eqb (get_or p.metered k 0) 0);
  weight = get_or p.weight k 0;
  reading = get_or p.reading k (pos 0);
  ranged = not (eqb (get_or p.ranged k 0) 0);
  low = get_or p.low k (pos 0);
  high = get_or p.high k (pos 0);
}

-- Whether every slice reaches place k.
abbrev pub reaches : Slices → ℕ → Bool
reaches p k =
    (ltb k (length p.from) && (ltb k (length p.to) && (ltb k (length p.metered) && (ltb k (length p.weight) && ltb k (length p.reading)))))
    && (ltb k (length p.ranged) && (ltb k (length p.low) && ltb k (length p.high)))

-- The stream that is handed over at place k: an empty record, from 0 to 0, where some slice does not reach it.
abbrev pub handed : Slices → ℕ → Stream
handed p k = pick (reaches p k) (parts_at p k) no_stream

-- The exported plant writer, of so many streams.
abbrev pub HandedWritten : ℕ → ℕ → Slices → List ℕ → List ℕ → Done → Type 0
HandedWritten n c p = PartsWritten n c (values c (handed p))

-- The lower of two numbers.
abbrev pub least : ℕ → ℕ → ℕ
least a b = pick (ltb a b) a b

-- As far as the shortest slice reaches, up to the limit.
abbrev pub reach : Slices → ℕ
reach p =
    least max_streams
    (least (least (least (length p.from) (length p.to)) (least (length p.metered) (least (length p.weight) (length p.reading))))
    (least (length p.ranged) (least (length p.low) (length p.high))))

-- The first n streams, one after the other.
abbrev pub listed_to : (ℕ → Stream) → ℕ → List Stream
listed_to f zero = []
listed_to f (suc n) = listed_to f n ++ (f n ∷ [])

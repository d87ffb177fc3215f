-- Streams as the solver needs them: those of a plant, and those of an array of which the first n are in use.
use mathlib.Core.Path.{◌≡◌}
use mathlib.Core.Bool.{true}
use mathlib.Core.List.{List}
use lib.IntN.{nat_abs}
use Prim.Native.Nat.{ℕ, ◌≤◌, ◌<◌}
use native.Mathlib.Omega.{arith}
use lib.ListN.{length, get_or, take}
use lib.Seq.{get_or-take, length-take-le}
use Rattle.plant_def.specs.declared.Stream.{Stream}
use Rattle.plant_def.specs.Limits.{max_units, max_streams}
use Rattle.plant_def.specs.Plants.{no_stream}
use Rattle.plant_def.specs.Within.{WithinStream}
use Rattle.flow_def.specs.Flows.{stream_at}
use Rattle.solve_def.specs.Sizes.{most_reading}
use Rattle.solve_def.specs.SearchNeeds.{Network}
use Rattle.solve_def.proofs.Weights.{weight_most}
use Rattle.solve_def.proofs.Bounds.{reading_within}
use Rattle.solve_def.proofs.Ranged.{Ranged, ranged}
use Rattle.solve_def.proofs.Growing.{Plain}

-- Streams of a network that can be solved.
pub record Solvable (ss : List Stream) : Type 0 where
  pub plain : Plain max_units ss
  pub weighed : (k : ℕ) → k < length ss → (stream_at ss k).metered ≡ true → 1 ≤ (stream_at ss k).weight
  pub within_range : (k : ℕ) → k < length ss → (stream_at ss k).metered ≡ true → nat_abs (stream_at ss k).reading ≤ most_reading
  pub distinct : (k : ℕ) → k < length ss → (stream_at ss k).from ≡ (stream_at ss k).to → ⊥
  pub ranged : (k : ℕ) → k < length ss → Ranged (stream_at ss k)

-- Streams within the limits of a plant.
module _ {n : ℕ} (ss : List Stream) (small : n ≤ max_units) (few : length ss ≤ max_streams) (each : (k : ℕ) → k < length ss → WithinStream n (stream_at ss k)) where
  plain_in : Plain max_units ss
  plain_in = record {
    inside = λ k l. (omega (arith, (each k l).from_in), omega (arith, (each k l).to_in));
    small = omega arith;
    few = few;
    light = λ k l. weight_most (stream_at ss k) (each k l);
    read = λ k l m. reading_within (stream_at ss k).reading (omega (arith, (each k l).within_range m));
  }

  -- Streams within the limits are such.
  pub solvable_with : Solvable ss
  solvable_with = record {
    plain = plain_in;
    weighed = λ k l. (each k l).weighed;
    within_range = λ k l m. omega (arith, (each k l).within_range m);
    distinct = λ k l. (each k l).distinct;
    ranged = λ k l. ranged (stream_at ss k) (each k l);
  }

-- Streams of the array.
pub stream_is : (streams : List Stream) (n k : ℕ) → k < n → stream_at (take n streams) k ≡ get_or streams k no_stream
stream_is streams n k l = get_or-take n streams k no_stream l

-- The streams in use are n.
pub in_use : (streams : List Stream) (n : ℕ) → Network streams n → length (take n streams) ≡ n
in_use streams n w = length-take-le n streams (omega (arith, w.long, w.within.few_streams))

module _ (streams : List Stream) (n : ℕ) (w : Network streams n) where
  few_of : length (take n streams) ≤ max_streams
  few_of = omega (arith, in_use streams n w, w.within.few_streams)

  each_of : (k : ℕ) → k < length (take n streams) → WithinStream max_units (stream_at (take n streams) k)
  each_of k l = rw (stream_is streams n k at) (w.within.each k at)
    where
      at : k < n
      at = rw (in_use streams n w) at l

  -- The streams in use of an array are such.
  pub solvable_of : Solvable (take n streams)
  solvable_of = solvable_with (take n streams) (omega arith) few_of each_of

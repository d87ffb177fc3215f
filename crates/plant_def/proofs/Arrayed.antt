-- Plants in arrays, within their limits: what their lists have, and that a plant that is read is accepted.
use mathlib.Core.Path.{◌≡◌, sym, subst}
use mathlib.Core.List.{List}
use Prim.Native.Nat.{ℕ, ◌≤◌, ◌<◌}
use native.Mathlib.Omega.{arith}
use lib.ListN.{length, get_or}
use lib.Seq.{length-take-le, get_or-take}
use Rattle.plant_def.specs.declared.Stream.{Stream}
use Rattle.plant_def.specs.declared.Plant as Arrays
use Rattle.plant_def.specs.Limits.{max_units, max_streams}
use Rattle.plant_def.specs.Plants.{Plant, no_stream}
use Rattle.plant_def.specs.Within.{WithinStream, Within, Accepted}
use Rattle.plant_def.specs.Files.{got, read_plant}
use Rattle.plant_def.specs.Says.{arrayed, plant_of}
use Rattle.plant_def.proofs.Limited.{within}
use Rattle.plant_def.proofs.Accepted.{accepted}
use Rattle.plant_def.proofs.Held.{length_padded, get_d_padded, plant_held}

-- A stream of a plant is a stream of a larger one.
pub within_more : {m n : ℕ} {s : Stream} → m ≤ n → WithinStream m s → WithinStream n s
within_more l w = record {
  from_in = omega (arith, w.from_in);
  to_in = omega (arith, w.to_in);
  distinct = w.distinct;
  weighed = w.weighed;
  light = w.light;
  within_range = w.within_range;
  ordered = w.ordered;
  low_in = w.low_in;
  high_in = w.high_in;
}

module _ (p : Arrays.Plant) (a : Accepted p) where
  -- The list has as many streams as are counted, each that of the array.
  pub all_listed : length (plant_of p).streams ≡ p.count
  all_listed = length-take-le p.count p.streams (omega (arith, a.long, a.within.few_streams))

  -- A stream of the list is that of the array.
  pub listed_at : (k : ℕ) → k < p.count → get_or (plant_of p).streams k no_stream ≡ get_or p.streams k no_stream
  listed_at k l = get_or-take p.count p.streams k no_stream l

  -- The plant that the array holds is within its limits.
  pub within_of : Within (plant_of p)
  within_of = record {
    some_units = a.within.some_units;
    few_units = a.within.few_units;
    few_streams = omega (arith, all_listed, a.within.few_streams);
    each = λ k l. let h : k < p.count = omega (arith, all_listed) in rw (listed_at k h) (a.within.each k h);
  }

  -- Whatever the number of units.
  pub stream_within : (k : ℕ) → k < p.count → WithinStream max_units (get_or p.streams k no_stream)
  stream_within k l = within_more a.within.few_units (a.within.each k l)

-- The array of a plant within its limits.
pub array_accepted : (q : Plant) → Within q → Accepted (arrayed q)
array_accepted q w = record {
  long = length_padded max_streams q.streams;
  within = record {
    some_units = w.some_units;
    few_units = w.few_units;
    few_streams = w.few_streams;
    each = λ k l. subst (WithinStream q.units) (sym (get_d_padded max_streams q.streams k w.few_streams l)) (w.each k l);
  };
}

-- A plant that is read is accepted, as the reader hands it over, and stands for the plant of the file.
module _ (file : List ℕ) (q : Plant) (e : read_plant file ≡ got q) where
  -- It is accepted,
  pub read_accepted : Accepted (arrayed q)
  read_accepted = array_accepted q (within q (accepted file q e).0)

  -- and is the plant of the file.
  pub read_held : plant_of (arrayed q) ≡ q
  read_held = plant_held q (within q (accepted file q e).0).few_streams

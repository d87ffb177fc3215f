-- A plant without fault is within its limits.
use mathlib.Core.Path.{◌≡◌, refl, sym}
use mathlib.Core.Bool.{Bool, true, false, false≢true, ◌&&◌, ◌||◌}
use mathlib.Core.List.{List, [], ◌∷◌}
use lib.IntN.{ℤ, pos, negsuc, nat_abs}
use lib.Signed.{le_z, lt_z}
use Prim.Native.Nat.{ℕ, zero, suc, ◌≤◌, ◌<◌}
use native.Mathlib.Omega.{arith}
use borrow.Author.Tests.{ltb-false, eqb-false, le-leb}
use lib.Dec.{eqb, ltb}
use lib.ListN.{length, get_or}
use Rattle.num_bytes.specs.Choice.{pick, refuse_if, first_of}
use Rattle.num_bytes.proofs.Tests.{and_left, and_right, or_none_left, or_none_right, refuse_none, first_none_left, first_none_right}
use Rattle.plant_def.specs.declared.Stream.{Stream}
use Rattle.plant_def.specs.Limits.{max_units, max_streams, max_weight, max_reading, max_range}
use Rattle.plant_def.specs.Within.{WithinStream, Within}
use Rattle.plant_def.specs.Plants.{Plant, no_stream, limited, units_fault, meter_fault, range_fault, stream_fault, first_fault, parts_fault, plant_fault}

-- A number of units without fault.
module _ (n : ℕ) (e : units_fault n ≡ 0) where
  inside : eqb n 0 || ltb max_units n ≡ false
  inside = refuse_none (eqb n 0 || ltb max_units n) 5 e

  some_units : 1 ≤ n
  some_units = let z = eqb-false n 0 (or_none_left (eqb n 0) (ltb max_units n) inside) in omega arith

  few_units : n ≤ max_units
  few_units = ltb-false max_units n (or_none_right (eqb n 0) (ltb max_units n) inside)

-- One end of a range is not above the other.
not_above : (l h : ℤ) → lt_z h l ≡ false → le_z l h ≡ true
not_above (pos a) (pos b) e = le-leb a b (ltb-false b a e)
not_above (pos a) (negsuc b) e = absurd (false≢true (sym e))
not_above (negsuc a) (pos b) e = refl
not_above (negsuc a) (negsuc b) e = le-leb b a (ltb-false a b e)

-- A stream without fault.
pub within_stream : (n : ℕ) (s : Stream) → stream_fault n s ≡ 0 → WithinStream n s
within_stream n s e = record {
  from_in = ltb-false n s.from (or_none_left (ltb n s.from) (ltb n s.to) ends);
  to_in = ltb-false n s.to (or_none_right (ltb n s.from) (ltb n s.to) ends);
  distinct = eqb-false s.from s.to (refuse_none (eqb s.from s.to) 7 (first_none_left (refuse_if (eqb s.from s.to) 8) _ rest));
  weighed = λ m. let z = eqb-false s.weight 0 (or_none_left (eqb s.weight 0) (ltb max_weight s.weight) (weight m)) in omega arith;
  light = λ m. ltb-false max_weight s.weight (or_none_right (eqb s.weight 0) (ltb max_weight s.weight) (weight m));
  within_range = λ m. ltb-false max_reading (nat_abs s.reading)
      (refuse_none _ 9 (first_none_right (refuse_if (eqb s.weight 0 || ltb max_weight s.weight) 9) _ (first_none_left (meter_fault s.weight s.reading) _ (meter m))));
  ordered = λ r. not_above s.low s.high (or_none_left (lt_z s.high s.low) beyond (range r));
  low_in = λ r. ltb-false max_range (nat_abs s.low) (or_none_left (ltb max_range (nat_abs s.low)) (ltb max_range (nat_abs s.high)) (ends_in_lem r));
  high_in = λ r. ltb-false max_range (nat_abs s.high) (or_none_right (ltb max_range (nat_abs s.low)) (ltb max_range (nat_abs s.high)) (ends_in_lem r));
}
  where
    ends : ltb n s.from || ltb n s.to ≡ false
    ends = refuse_none _ 6 (first_none_left (refuse_if (ltb n s.from || ltb n s.to) 7) _ e)

    rest : first_of (refuse_if (eqb s.from s.to) 8) (pick s.metered (first_of (meter_fault s.weight s.reading) (range_fault s.ranged s.low s.high)) 0) ≡ 0
    rest = first_none_right (refuse_if (ltb n s.from || ltb n s.to) 7) _ e

    meter : s.metered ≡ true → first_of (meter_fault s.weight s.reading) (range_fault s.ranged s.low s.high) ≡ 0
    meter m = rw m at (first_none_right (refuse_if (eqb s.from s.to) 8) _ rest)

    weight : s.metered ≡ true → eqb s.weight 0 || ltb max_weight s.weight ≡ false
    weight m = refuse_none _ 8 (first_none_left (refuse_if (eqb s.weight 0 || ltb max_weight s.weight) 9) _ (first_none_left (meter_fault s.weight s.reading) _ (meter m)))

    beyond : Bool
    beyond = ltb max_range (nat_abs s.low) || ltb max_range (nat_abs s.high)

    range : limited s ≡ true → lt_z s.high s.low || beyond ≡ false
    range r =
        let q = and_right s.metered s.ranged r in
        rw q at (refuse_none (s.ranged && (lt_z s.high s.low || beyond)) 17 (first_none_right (meter_fault s.weight s.reading) _ (meter (and_left s.metered s.ranged r))))

    ends_in_lem : limited s ≡ true → beyond ≡ false
    ends_in_lem r = or_none_right (lt_z s.high s.low) beyond (range r)

within_each : (n : ℕ) (ss : List Stream) → first_fault n ss ≡ 0 → (k : ℕ) → k < length ss → WithinStream n (get_or ss k no_stream)
within_each n [] e k l = absurd (omega arith)
within_each n (s ∷ ss) e zero l = within_stream n s (first_none_left (stream_fault n s) (first_fault n ss) e)
within_each n (s ∷ ss) e (suc k) l = within_each n ss (first_none_right (stream_fault n s) (first_fault n ss) e) k (omega arith)

-- Parts without fault.
module _ (n c : ℕ) (ss : List Stream) (e : parts_fault n c ss ≡ 0) where
  -- The units have none,
  pub units_good : units_fault n ≡ 0
  units_good = first_none_left (units_fault n) _ e

  rest : first_of (refuse_if (ltb max_streams c) 5) (first_fault n ss) ≡ 0
  rest = first_none_right (units_fault n) _ e

  -- the streams are no more than there may be,
  pub few_parts : c ≤ max_streams
  few_parts = ltb-false max_streams c (refuse_none _ 4 (first_none_left (refuse_if (ltb max_streams c) 5) _ rest))

  -- and no stream has one.
  pub streams_good : first_fault n ss ≡ 0
  streams_good = first_none_right (refuse_if (ltb max_streams c) 5) _ rest

-- A plant without fault is within its limits.
pub within : (p : Plant) → plant_fault p ≡ 0 → Within p
within p e =
    let n = p.units in
    let ss = p.streams in
    let u = units_good n (length ss) ss e in
    record {
      some_units = some_units n u;
      few_units = few_units n u;
      few_streams = few_parts n (length ss) ss e;
      each = within_each n ss (streams_good n (length ss) ss e);
    }

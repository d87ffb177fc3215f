-- Plants and their faults: refusals 5 to 10 and 18 as far as they concern a plant's parts.
use Rattle.std.specs.Prelude.{Bool, true, false, not, ◌&&◌, ◌||◌, List, [], ◌∷◌, ℤ, pos, nat_abs, ℕ, eqb, ltb, length}
use Rattle.std.specs.Int.Signed.{lt_z}
use Rattle.num_bytes.specs.Choice.{pick, refuse_if, first_of}
use Rattle.plant_def.specs.declared.Stream.{Stream}
use Rattle.plant_def.specs.Limits.{max_units, max_streams, max_weight, max_reading, max_range}

-- A plant (a process network): units 1 to n, the outside 0, and its streams (the arcs), numbered from 1 in list order.
-- A stream is a record of src/lib.rt: from, to, metered, weight, reading, ranged, low, high.
pub record Plant : Type 0 where
  pub units : ℕ
  pub streams : List Stream

-- An unmetered stream (an unmeasured flow) has neither weight, reading nor range.
abbrev pub unmetered : ℕ → ℕ → Stream
unmetered u v = record { from = u; to = v; metered = false; weight = 0; reading = pos 0; ranged = false; low = pos 0; high = pos 0 }

-- The empty record.
abbrev pub no_stream : Stream
no_stream = unmetered 0 0

-- A stream with a range: its corrected flow lies from low to high.
abbrev pub limited : Stream → Bool
limited s = s.metered && s.ranged

-- n is 0 or over its limit: 6.
abbrev pub units_fault : ℕ → ℕ
units_fault n = refuse_if (eqb n 0 || ltb max_units n) 6

-- The weight is 0 or over its limit: 9. The reading is outside its range: 10.
abbrev pub meter_fault : ℕ → ℤ → ℕ
meter_fault w r = first_of (refuse_if (eqb w 0 || ltb max_weight w) 9) (refuse_if (ltb max_reading (nat_abs r)) 10)

-- Low above high, or either outside its limits: 18.
abbrev pub range_fault : Bool → ℤ → ℤ → ℕ
range_fault b l h = refuse_if (b && (lt_z h l || (ltb max_range (nat_abs l) || ltb max_range (nat_abs h)))) 18

-- From or to above n: 7. From equals to: 8. Then the meter's, and then its range's.
abbrev pub stream_fault : ℕ → Stream → ℕ
stream_fault n s =
    first_of (refuse_if (ltb n s.from || ltb n s.to) 7)
    (first_of (refuse_if (eqb s.from s.to) 8)
    (pick s.metered (first_of (meter_fault s.weight s.reading) (range_fault s.ranged s.low s.high)) 0))

-- The first fault in a list of streams.
abbrev pub first_fault : ℕ → List Stream → ℕ
first_fault n [] = 0
first_fault n (s ∷ ss) = first_of (stream_fault n s) (first_fault n ss)

-- The faults of a plant's parts, c being the number of streams announced: 6, then 5, then each stream's.
abbrev pub parts_fault : ℕ → ℕ → List Stream → ℕ
parts_fault n c ss = first_of (units_fault n) (first_of (refuse_if (ltb max_streams c) 5) (first_fault n ss))

-- The same of a plant, which has as many streams as it announces.
abbrev pub plant_fault : Plant → ℕ
plant_fault p = parts_fault p.units (length p.streams) p.streams

-- An unmetered stream has neither weight, reading nor range, and a stream without a range has low and high 0.
abbrev pub plain_one : Stream → Bool
plain_one s =
    (s.metered || (eqb s.weight 0 && (eqb (nat_abs s.reading) 0 && not s.ranged)))
    && (s.ranged || (eqb (nat_abs s.low) 0 && eqb (nat_abs s.high) 0))

-- Every stream of a list is so.
abbrev pub plain : List Stream → Bool
plain [] = true
plain (s ∷ ss) = plain_one s && plain ss

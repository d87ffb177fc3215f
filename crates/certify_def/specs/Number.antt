-- A plant of wide numbers, handed over in slices, and its faults.
use Rattle.std.specs.Prelude.{◌&&◌, ◌||◌, nat_abs, ℕ, zero, suc, eqb, ltb, length}
use Rattle.std.specs.Int.Signed.{lt_z}
use Rattle.num_bytes.specs.Choice.{pick, refuse_if, first_of}
use Rattle.num_bytes.specs.Inner.{values}
use Rattle.plant_def.specs.declared.Stream.{Stream}
use Rattle.plant_def.specs.Limits.{max_streams}
use Rattle.plant_def.specs.Plants.{Plant, units_fault}
use Rattle.plant_parts.specs.Parts.{Slices, parts_at, least}

-- The limits: a weight, and a reading, 2^40; a flow, 2^55; the number of a place, 2^61. (Ends of a range have none but 64 bits.)
abbrev pub max_wide_weight : ℕ
max_wide_weight = 1099511627776

-- A reading, from minus this to this.
abbrev pub max_wide_reading : ℕ
max_wide_reading = 1099511627776

-- A flow, from minus this to this.
abbrev pub max_wide_flow : ℕ
max_wide_flow = 36028797018963968

-- The number of a place, from minus this to this.
abbrev pub max_wide_number : ℕ
max_wide_number = 2305843009213693952

-- The plant whose first c streams are handed over in slices.
abbrev pub wide_plant : ℕ → ℕ → Slices → Plant
wide_plant n c parts = record { units = n; streams = values c (parts_at parts) }

-- How far the shortest slice reaches.
abbrev pub shortest : Slices → ℕ
shortest p =
    least (least (least (length p.from) (length p.to)) (least (length p.metered) (length p.weight)))
    (least (least (length p.reading) (length p.ranged)) (least (length p.low) (length p.high)))

-- A stream's fault. From or to above n: 7. From equals to: 8. Of a metered one, its weight 0 or over its limit: 9; its reading beyond
-- its limit: 10; low above high: 18.
abbrev pub wide_fault : ℕ → Stream → ℕ
wide_fault n s =
    first_of (refuse_if (ltb n s.from || ltb n s.to) 7)
    (first_of (refuse_if (eqb s.from s.to) 8)
    (pick s.metered
    (first_of (refuse_if (eqb s.weight 0 || ltb max_wide_weight s.weight) 9)
    (first_of (refuse_if (ltb max_wide_reading (nat_abs s.reading)) 10) (refuse_if (s.ranged && lt_z s.high s.low) 18))) 0))

-- The first fault of the first k streams.
abbrev pub wide_faults : ℕ → (ℕ → Stream) → ℕ → ℕ
wide_faults n s zero = 0
wide_faults n s (suc k) = first_of (wide_faults n s k) (wide_fault n (s k))

-- The fault of a call over c streams with so many flows and numbers of the places: a slice too short 1, then those of the plant, 6, 5, then
-- the first stream's.
abbrev pub flow_fault : ℕ → ℕ → Slices → ℕ → ℕ → ℕ
flow_fault n c parts flows numbers =
    first_of (refuse_if (ltb (least (shortest parts) flows) c || ltb numbers (suc n)) 1)
    (first_of (units_fault n) (first_of (refuse_if (ltb max_streams c) 5) (wide_faults n (parts_at parts) c)))

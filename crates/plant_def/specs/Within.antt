-- Plants within their limits: what the absence of faults says, field by field.
use Rattle.std.specs.Prelude.{◌≡◌, true, List, nat_abs, ℕ, ◌≤◌, ◌<◌, length, get_or}
use Rattle.std.specs.Int.Signed.{le_z}
use Rattle.plant_def.specs.declared.Stream.{Stream}
use Rattle.plant_def.specs.declared.Plant as Arrays
use Rattle.plant_def.specs.Limits.{max_units, max_streams, max_weight, max_reading, max_range}
use Rattle.plant_def.specs.Plants.{Plant, no_stream, limited}

-- A stream within the limits of a plant with n units.
pub record WithinStream (n : ℕ) (s : Stream) : Type 0 where
  pub from_in : s.from ≤ n
  pub to_in : s.to ≤ n
  pub distinct : s.from ≡ s.to → ⊥
  pub weighed : s.metered ≡ true → 1 ≤ s.weight
  pub light : s.metered ≡ true → s.weight ≤ max_weight
  pub within_range : s.metered ≡ true → nat_abs s.reading ≤ max_reading
  pub ordered : limited s ≡ true → le_z s.low s.high ≡ true
  pub low_in : limited s ≡ true → nat_abs s.low ≤ max_range
  pub high_in : limited s ≡ true → nat_abs s.high ≤ max_range

-- Parts within the limits of a plant: n units, and the first c streams of a list.
pub record WithinParts (n c : ℕ) (ss : List Stream) : Type 0 where
  pub some_units : 1 ≤ n
  pub few_units : n ≤ max_units
  pub few_streams : c ≤ max_streams
  pub each : (k : ℕ) → k < c → WithinStream n (get_or ss k no_stream)

-- A plant within its limits.
abbrev pub Within : Plant → Type 0
Within p = WithinParts p.units (length p.streams) p.streams

-- A plant within its limits, its streams in an array.
pub record Accepted (p : Arrays.Plant) : Type 0 where
  pub long : length p.streams ≡ max_streams
  pub within : WithinParts p.units p.count p.streams

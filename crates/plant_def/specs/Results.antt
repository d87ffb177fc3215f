-- What the readers and the writers hand over, as the definitions speak of it.
use Rattle.std.specs.Prelude.{ℕ}
use Rattle.plant_def.specs.declared.Stream.{Stream}
use Rattle.plant_def.specs.declared.Plant as Arrays

-- What stands where the site record is due: the units, or a refusal.
pub data Site : Type 0 where
  Units : ℕ → Site
  Missing : ℕ → Site

-- What stands where a later record is due: a stream with the record's size, the end of the file, or a refusal.
pub data Record : Type 0 where
  Listed : Stream → ℕ → Record
  End : Record
  Refused : ℕ → Record

-- What the plant reader hands over: 0 and the plant, or a refusal number and a plant without units or streams.
pub record Read : Type 0 where
  pub number : ℕ
  pub plant : Arrays.Plant

-- What a writer hands over: 0 and the bytes written, or a refusal number and 0.
pub record Done : Type 0 where
  pub number : ℕ
  pub written : ℕ

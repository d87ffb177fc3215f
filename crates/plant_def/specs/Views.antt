-- What the results of the readers and the writers say: a result of Rust's library, seen as what the definitions speak of.
use Rattle.std.specs.Prelude.{ℕ, Option, Some, None, Result, Ok, Err}
use Rattle.plant_def.specs.declared.Stream.{Stream}
use Rattle.plant_def.specs.declared.Plant as Arrays
use Rattle.plant_def.specs.Results.{Site, Units, Missing, Record, Listed, End, Refused, Read, Done}
use Rattle.plant_def.specs.declared.refusal.Refusal.{Refusal}
use Rattle.plant_def.specs.Files.{bad}
use Rattle.plant_def.specs.Says.{read_of}
use Rattle.plant_def.specs.Refused.{refusal_number}

-- What stands where the site record is due: the units, or a refusal.
abbrev pub site_as : Result ℕ Refusal → Site
site_as (Ok n) = Units n
site_as (Err e) = Missing (refusal_number e)

-- What stands where a later record is due: a stream with its record's size, the end of the file, or a refusal.
abbrev pub record_as : Result (Option (Stream × ℕ)) Refusal → Record
record_as (Ok (Some (s, m))) = Listed s m
record_as (Ok None) = End
record_as (Err e) = Refused (refusal_number e)

-- What the plant reader hands over: a plant, or a refusal's number with a plant without units or streams.
abbrev pub read_as : Result Arrays.Plant Refusal → Read
read_as (Ok p) = record { number = 0; plant = p }
read_as (Err e) = read_of (bad (refusal_number e))

-- What a writer hands over: the bytes written, or a refusal's number and 0.
abbrev pub done_as : Result ℕ Refusal → Done
done_as (Ok n) = record { number = 0; written = n }
done_as (Err e) = record { number = refusal_number e; written = 0 }

-- What the call over numbers of the places says: a result of Rust's library, seen as what the definitions speak of.
use Rattle.std.specs.Prelude.{Result, Ok, Err}
use Rattle.plant_def.specs.declared.refusal.Refusal.{Refusal}
use Rattle.plant_def.specs.Refused.{refusal_number}
use Rattle.foreign_def.specs.declared.PlaceNumbers as Arrays
use Rattle.foreign_def.specs.Numbers.{PlaceNumbers, no_numbers}

-- Numbers of the places, or a refusal's number, no places and zeros.
abbrev pub numbers_as : Result Arrays.PlaceNumbers Refusal → PlaceNumbers
numbers_as (Ok r) = record { number = 0; count = r.count; numbers = r.numbers }
numbers_as (Err e) = no_numbers (refusal_number e)

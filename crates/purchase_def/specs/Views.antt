-- What the call's result says: a result of Rust's library, seen as what the definitions speak of.
use Rattle.std.specs.Prelude.{Result, Ok, Err}
use Rattle.plant_def.specs.declared.refusal.Refusal.{Refusal}
use Rattle.plant_def.specs.Refused.{refusal_number}
use Rattle.purchase_def.specs.declared.Bought as Found
use Rattle.purchase_def.specs.Results.{Bought}
use Rattle.purchase_def.specs.Says.{none_bought}

-- The streams that are bought, none refused.
abbrev pub held_as : Found.Bought → Bought
held_as b = record { number = 0; count = b.count; streams = b.streams; price = b.price }

-- The streams that are bought, or a refusal's number with zeros.
abbrev pub bought_as : Result Found.Bought Refusal → Bought
bought_as (Ok b) = held_as b
bought_as (Err e) = none_bought (refusal_number e)

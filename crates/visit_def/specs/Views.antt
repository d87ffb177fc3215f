-- What the result of the call says: a result of Rust's library, seen as what the definitions speak of.
use Rattle.std.specs.Prelude.{Result, Ok, Err}
use Rattle.plant_def.specs.declared.refusal.Refusal.{Refusal}
use Rattle.plant_def.specs.Refused.{refusal_number}
use Rattle.visit_def.specs.declared.Visits as Arrays
use Rattle.visit_def.specs.Results.{Visits}
use Rattle.visit_def.specs.Says.{no_visits}

-- A list in arrays.
abbrev pub listed_as : Arrays.Visits → Visits
listed_as v = record { number = 0; count = v.count; streams = v.streams; costs = v.costs }

-- A list, or a refusal's number and zeros.
abbrev pub visits_as : Result Arrays.Visits Refusal → Visits
visits_as (Ok v) = listed_as v
visits_as (Err e) = no_visits (refusal_number e)

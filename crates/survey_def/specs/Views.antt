-- What the survey's result says: a result of Rust's library, seen as what the definitions speak of.
use Rattle.std.specs.Prelude.{Result, Ok, Err}
use Rattle.plant_def.specs.declared.refusal.Refusal.{Refusal}
use Rattle.plant_def.specs.Refused.{refusal_number}
use Rattle.survey_def.specs.declared.Layouts as Found
use Rattle.survey_def.specs.Results.{Layouts}
use Rattle.survey_def.specs.Says.{refused_with}

-- The counts of a plant, or a refusal's number with zeros.
abbrev pub layouts_as : Result Found.Layouts Refusal → Layouts
layouts_as (Ok l) = record { number = 0; count = l.count; counts = l.counts }
layouts_as (Err e) = refused_with (refusal_number e)

-- By what was read, in the order of the refusals.
use mathlib.Core.Path.{refl}
use native.Mathlib.Omega.{arith}
use Rattle.std.specs.Prelude.{Ok}
use Rattle.plant_def.specs.Views.{read_as}
use Rattle.plant_def.proofs.Found.{plant_accepted}
use Rattle.survey_def.proofs.Promise.{says_surveyed}
use Rattle.survey_count.proofs.layouts_of.Goals as goal

pub survey-requires : goal.survey-requires
survey-requires c =
    (plant_accepted c.args.file.now (read_as (Ok c.in_ok-plant.plant)) c.in_ok-plant.ensures refl, omega arith)

pub returns : goal.returns
returns c =
    says_surveyed _ (read_as (Ok c.in_ok-plant.plant)) c.in_ok-plant.ensures refl (omega arith) _ c.survey.ensures

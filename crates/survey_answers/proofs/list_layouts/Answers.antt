-- By what was found.
use native.Mathlib.Omega.{arith}
use Rattle.std.specs.Prelude.{Ok}
use Rattle.survey_def.specs.Views.{layouts_as}
use Rattle.survey_def.proofs.Promise.{survey_fits}
use Rattle.survey_answers.proofs.list_layouts.Goals as goal

pub shared_ref_as_front-put_lines : goal.shared_ref_as_front-put_lines
shared_ref_as_front-put_lines c = let f = survey_fits c.args.file.now (layouts_as (Ok c.in-Ok.layouts)) c.in-Ok.ensures in omega (arith, f.0)

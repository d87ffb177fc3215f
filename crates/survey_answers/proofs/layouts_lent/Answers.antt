-- By what was found.
use native.Mathlib.Omega.{arith}
use Rattle.std.specs.Prelude.{Ok}
use Rattle.survey_def.specs.Views.{layouts_as}
use Rattle.survey_def.proofs.Promise.{survey_fits}
use Rattle.survey_answers.proofs.Lending.{lends_nothing}
use Rattle.survey_answers.proofs.layouts_lent.Goals as goal

pub returns-then-counts-lt-SURVEY_SIZE : goal.returns-then-counts-lt-SURVEY_SIZE
returns-then-counts-lt-SURVEY_SIZE c = lends_nothing c.args.file.now c.args.counts.now c.if-counts-lt-SURVEY_SIZE.true

pub shared_ref_as_front-put_front : goal.shared_ref_as_front-put_front
shared_ref_as_front-put_front c = let f = survey_fits c.args.file.now (layouts_as (Ok c.in-Ok.layouts)) c.in-Ok.ensures in omega (arith, f.0)

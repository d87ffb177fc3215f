-- Handing a survey over, by what was found.
use mathlib.Core.Path.{refl}
use mathlib.Core.List.{List}
use Prim.Native.Nat.{ℕ, ◌<◌}
use native.Mathlib.Omega.{arith}
use lib.ListN.{length}
use Rattle.survey_def.specs.Says.{survey_size, refused_with}
use Rattle.survey_answers.specs.Lent.{SurveyFound}

module _ (file cs : List ℕ) where
  -- A slice that is too short.
  pub lends_nothing : length cs < survey_size → SurveyFound file cs (1, 0, cs)
  lends_nothing h = record { made = refused_with 1; enough = λ l. absurd (omega arith); short = λ l. refl; handed = refl }

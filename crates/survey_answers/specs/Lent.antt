-- A survey, handed over in a slice of numbers.
use Rattle.std.specs.Prelude.{List, ℕ, ◌≤◌, length}
use Rattle.num_bytes.specs.Bytes.{over}
use Rattle.num_lent.specs.Lending.{Lending}
use Rattle.survey_def.specs.Results.{Layouts}
use Rattle.survey_def.specs.Says.{survey_size, refused_with, listed, SurveySays}

-- What a survey shows: the number, how many streams there are, and the counts at the front of the slice, the rest as it was. (With a
-- refusal there are no counts: the slice is as it was.)
abbrev pub survey_shown : List ℕ → Layouts → ℕ × ℕ × List ℕ
survey_shown cs l = (l.number, l.count, over (listed l) cs)

-- The call over a slice, to hold as many counts as there may be: what is found after it.
abbrev pub SurveyFound : (file cs : List ℕ) → ℕ × ℕ × List ℕ → Type 0
SurveyFound file cs = Lending (survey_size ≤ length cs) refused_with (SurveySays file) (survey_shown cs)

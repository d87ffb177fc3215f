-- What the call that lists a survey promises.
use Rattle.std.specs.Prelude.{◌≡◌, List, ℕ, ◌*◌, ◌≤◌, ◌<◌, length}
use Rattle.num_bytes.specs.Inner.{Put}
use Rattle.num_text.specs.Numerals.{text}
use Rattle.survey_def.specs.Results.{Layouts}
use Rattle.survey_def.specs.Says.{survey_size, SurveySays}
use Rattle.survey_def.specs.Sample.{sample_file, empty_file}
use Rattle.survey_answers.specs.Text.{survey_text}

-- The longest line: a size of 2 digits, a count of 5.
abbrev pub line_size : ℕ
line_size = 9

-- The least slice that is taken: as many lines as there may be, 9 characters each. 117 characters.
abbrev pub least_text : ℕ
least_text = survey_size * 9

-- A slice that is too short: nothing, and the slice as it was. Else the text of the survey, and the slice past it as it was.
pub record TextSays (file o o' : List ℕ) (r : ℕ) : Type 0 where
  pub too_short : length o < least_text → (r ≡ 0) × (o' ≡ o)
  pub told : least_text ≤ length o → (l : Layouts) × SurveySays file l × Put (survey_text l) o o' r

-- Worked examples: the definition's plant, and one without streams, character for character.
pub record Texts : Type 0 where
  pub listing : (o o' : List ℕ) (r : ℕ) → least_text ≤ length o → TextSays sample_file o o' r → Put (text "0 0\n1 0\n2 5\n3 4\n4 1\n") o o' r
  pub empty : (o o' : List ℕ) (r : ℕ) → least_text ≤ length o → TextSays empty_file o o' r → Put (text "0 1\n") o o' r

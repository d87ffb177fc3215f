-- What the call that lists meters worth a visit promises.
use Rattle.std.specs.Prelude.{◌≡◌, List, ℕ, ◌*◌, ◌≤◌, ◌<◌, length}
use Rattle.num_bytes.specs.Inner.{Put}
use Rattle.num_text.specs.Numerals.{text}
use Rattle.plant_def.specs.Limits.{max_streams}
use Rattle.visit_def.specs.Results.{Visits}
use Rattle.visit_def.specs.Says.{VisitsSays}
use Rattle.visit_def.specs.Sample.{sample_file}
use Rattle.visit_text.specs.Text.{visits_text}

-- The longest line: a number of 3 digits, a cost of 20.
abbrev pub line_size : ℕ
line_size = 25

-- The least slice that is taken: as many lines as there may be, 25 characters each. 2,400 characters.
abbrev pub least_text : ℕ
least_text = max_streams * 25

-- A slice that is too short: nothing, and the slice as it was. Else the text of the list, and the slice past it as it was.
pub record TextSays (file o o' : List ℕ) (r : ℕ) : Type 0 where
  pub too_short : length o < least_text → (r ≡ 0) × (o' ≡ o)
  pub told : least_text ≤ length o → (l : Visits) × VisitsSays file l × Put (visits_text l) o o' r

-- A worked example: the definition's plant, character for character.
pub record Texts : Type 0 where
  pub listing : (o o' : List ℕ) (r : ℕ) → least_text ≤ length o → TextSays sample_file o o' r → Put (text "1 0\n4 0\n") o o' r

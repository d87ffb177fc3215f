-- What the survey of meter layouts promises.
use Rattle.std.specs.Prelude.{◌≡◌, List, [], ℕ, suc, ◌≤◌, ◌<◌, eqb, length, get_or, take, replicate}
use Rattle.num_bytes.specs.Choice.{pick}
use Rattle.plant_def.specs.Plants.{Plant}
use Rattle.plant_def.specs.Files.{bad, got, read_plant}
use Rattle.survey_def.specs.Results.{Layouts}
use Rattle.survey_def.specs.Layouts.{Counted}

-- The most streams of a plant that is surveyed.
abbrev pub max_surveyed : ℕ
max_surveyed = 12

-- A count for each number of metered streams, 0 among them.
abbrev pub survey_size : ℕ
survey_size = suc max_surveyed

-- A refusal: its number, no streams, zeros.
abbrev pub refused_with : ℕ → Layouts
refused_with f = record { number = f; count = 0; counts = replicate survey_size 0 }

-- The counts that there are: none with a refusal, else one for each k up to the number of streams.
abbrev pub listed : Layouts → List ℕ
listed r = pick (eqb r.number 0) (take (suc r.count) r.counts) []

-- The survey of a plant: a count for each k up to the number of streams, 0 past it.
pub record Surveyed (p : Plant) (r : Layouts) : Type 0 where
  pub number : r.number ≡ 0
  pub count : r.count ≡ length p.streams
  pub long : length r.counts ≡ survey_size
  pub each : (k : ℕ) → k ≤ length p.streams → Counted p k (get_or r.counts k 0)
  pub past : (k : ℕ) → length p.streams < k → get_or r.counts k 0 ≡ 0

-- A file that is not read gets its refusal, then a plant of too many streams 23. (19 is not given: ranges play no part.)
pub record SurveySays (file : List ℕ) (r : Layouts) : Type 0 where
  pub unread : (f : ℕ) → read_plant file ≡ bad f → r ≡ refused_with f
  pub too_many : (p : Plant) → read_plant file ≡ got p → max_surveyed < length p.streams → r ≡ refused_with 23
  pub surveyed : (p : Plant) → read_plant file ≡ got p → length p.streams ≤ max_surveyed → Surveyed p r

-- No choice is left: the survey follows from the file.
abbrev pub OneSurvey : Type 0
OneSurvey = (file : List ℕ) (r s : Layouts) → SurveySays file r → SurveySays file s → r ≡ s

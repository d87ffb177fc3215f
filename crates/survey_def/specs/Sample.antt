-- The plant of the definition's listing, and its survey.
use Rattle.std.specs.Prelude.{◌≡◌, List, [], ◌∷◌, ℕ}
use Rattle.survey_def.specs.Results.{Layouts}
use Rattle.survey_def.specs.Says.{SurveySays}

-- The bytes of the file: 2 units; 0 to 1 at weight 10, reading 100; 1 to 2, twice; 2 to 0 at weight 10, reading 98; 4 streams.
abbrev pub sample_file : List ℕ
sample_file = 1 ∷ 2 ∷ 2 ∷ 0 ∷ 1 ∷ 0 ∷ 10 ∷ 0 ∷ 0 ∷ 0 ∷ 100 ∷ 3 ∷ 1 ∷ 2 ∷ 3 ∷ 1 ∷ 2 ∷ 2 ∷ 2 ∷ 0 ∷ 0 ∷ 10 ∷ 0 ∷ 0 ∷ 0 ∷ 98 ∷ 4 ∷ 4 ∷ []

-- One unit, and no stream.
abbrev pub empty_file : List ℕ
empty_file = 1 ∷ 1 ∷ 4 ∷ 0 ∷ []

-- Every call on these files answers so.
pub record Samples : Type 0 where
  pub listed : (r : Layouts) → SurveySays sample_file r
      → r ≡ record { number = 0; count = 4; counts = 0 ∷ 0 ∷ 5 ∷ 4 ∷ 1 ∷ 0 ∷ 0 ∷ 0 ∷ 0 ∷ 0 ∷ 0 ∷ 0 ∷ 0 ∷ [] }
  pub empty : (r : Layouts) → SurveySays empty_file r
      → r ≡ record { number = 0; count = 0; counts = 1 ∷ 0 ∷ 0 ∷ 0 ∷ 0 ∷ 0 ∷ 0 ∷ 0 ∷ 0 ∷ 0 ∷ 0 ∷ 0 ∷ 0 ∷ [] }

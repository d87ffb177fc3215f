-- The plant of the definition's listing, and its list.
use Rattle.std.specs.Prelude.{◌≡◌, List, [], ◌∷◌, ℕ, replicate}
use Rattle.num_bytes.specs.Arrays.{filled}
use Rattle.plant_def.specs.Limits.{max_streams}
use Rattle.visit_def.specs.Results.{Visits}
use Rattle.visit_def.specs.Says.{VisitsSays}

-- The bytes of the file: 2 units; 0 to 1 at weight 10, reading 100; 1 to 2, twice; 2 to 0 at weight 10, reading 98; 4 streams.
abbrev pub sample_file : List ℕ
sample_file = 1 ∷ 2 ∷ 2 ∷ 0 ∷ 1 ∷ 0 ∷ 10 ∷ 0 ∷ 0 ∷ 0 ∷ 100 ∷ 3 ∷ 1 ∷ 2 ∷ 3 ∷ 1 ∷ 2 ∷ 2 ∷ 2 ∷ 0 ∷ 0 ∷ 10 ∷ 0 ∷ 0 ∷ 0 ∷ 98 ∷ 4 ∷ 4 ∷ []

-- Streams 1 and 4, at no cost.
abbrev pub sample_visits : Visits
sample_visits = record { number = 0; count = 2; streams = filled 0 max_streams (1 ∷ 4 ∷ []); costs = replicate max_streams 0 }

-- Every call on this file answers so.
abbrev pub Sample : Type 0
Sample = (r : Visits) → VisitsSays sample_file r → r ≡ sample_visits

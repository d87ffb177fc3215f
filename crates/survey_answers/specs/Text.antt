-- A survey as text. Characters stand as their numbers.
use Rattle.std.specs.Prelude.{List, [], ◌∷◌, ◌++◌, ℕ, suc, eqb}
use Rattle.num_bytes.specs.Choice.{pick}
use Rattle.num_text.specs.Numerals.{pair_line}
use Rattle.listing_lines.specs.Listing.{refusal_text}
use Rattle.survey_def.specs.Results.{Layouts}
use Rattle.survey_def.specs.Says.{listed}

-- The lines of counts, the first of which is of this size.
abbrev pub lines_from : ℕ → List ℕ → List ℕ
lines_from k [] = []
lines_from k (c ∷ cs) = pair_line k c ++ lines_from (suc k) cs

-- A line for each size; or the refusal's number, alone.
abbrev pub survey_text : Layouts → List ℕ
survey_text r = pick (eqb r.number 0) (lines_from 0 (listed r)) (refusal_text r.number)

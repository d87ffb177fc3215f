-- Meters worth a visit as text.
use Rattle.std.specs.Prelude.{List, [], ◌∷◌, ◌++◌, ℕ, eqb, take}
use Rattle.num_bytes.specs.Choice.{pick}
use Rattle.num_text.specs.Numerals.{pair_line}
use Rattle.listing_lines.specs.Listing.{refusal_text}
use Rattle.visit_def.specs.Results.{Visits}

-- A line for each stream of the list: its number, and the cost without its meter.
abbrev pub lines_for : List ℕ → List ℕ → List ℕ
lines_for [] cs = []
lines_for (n ∷ ns) [] = []
lines_for (n ∷ ns) (c ∷ cs) = pair_line n c ++ lines_for ns cs

-- A line for each stream listed; or the refusal's number, alone.
abbrev pub visits_text : Visits → List ℕ
visits_text r = pick (eqb r.number 0) (lines_for (take r.count r.streams) (take r.count r.costs)) (refusal_text r.number)

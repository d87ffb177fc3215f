-- The listing of a balance. Characters stand as their numbers.
use Rattle.std.specs.Prelude.{List, [], ◌∷◌, ◌++◌, ℤ, ℕ, suc, eqb, take}
use Rattle.num_bytes.specs.Choice.{pick}
use Rattle.num_text.specs.Numerals.{text, decimal, signed_decimal, field}
use Rattle.flow_def.specs.declared.Class.{Class}
use Rattle.flow_def.specs.declared.Class.TheVariants.{Adjusted, AsRead, Given, Withheld}
use Rattle.sheet_def.specs.declared.Entry.{Entry}
use Rattle.sheet_def.specs.declared.Balance.{Balance}

-- A stream's class letter and its flow; a dash where it is withheld.
abbrev pub entry_text : Class → ℤ → List ℕ
entry_text Adjusted x = text "A " ++ signed_decimal x
entry_text AsRead x = text "R " ++ signed_decimal x
entry_text Given x = text "G " ++ signed_decimal x
entry_text Withheld x = text "W -"

-- The line of a stream: number, class letter, flow.
abbrev pub line_of : ℕ → Entry → List ℕ
line_of number e = field number ++ entry_text e.class e.flow ++ text "\n"

-- The lines of streams, the first of which has this number.
abbrev pub lines_from : ℕ → List Entry → List ℕ
lines_from number [] = []
lines_from number (e ∷ es) = line_of number e ++ lines_from (suc number) es

-- The word for a verdict: 0, 1, 3, 2.
abbrev pub word_of : ℕ → List ℕ
word_of v = pick (eqb v 0) (text "pass") (pick (eqb v 1) (text "fail") (pick (eqb v 3) (text "close") (text "none")))

-- The line of the total: sheet number, cost, degrees, verdict.
abbrev pub total_line : ℕ → ℕ → ℕ → ℕ → List ℕ
total_line number cost degrees verdict =
    text "total " ++ field number ++ field cost ++ field degrees ++ word_of verdict ++ text "\n"

-- The listing of sheet n of a balance with so many streams: their lines in stream order, then the total's.
abbrev pub listing_of : ℕ → ℕ → Balance → List ℕ
listing_of count n b = lines_from 1 (take count b.streams) ++ total_line n b.cost b.degrees b.verdict

-- A refusal: its number, alone.
abbrev pub refusal_text : ℕ → List ℕ
refusal_text f = text "refused " ++ decimal f ++ text "\n"

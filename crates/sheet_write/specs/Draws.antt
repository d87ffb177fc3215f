-- What is drawn of an outcome.
use Rattle.std.specs.Prelude.{◌≡◌, List, ℕ, length}
use Rattle.num_bytes.specs.Bytes.{over}
use Rattle.num_bytes.specs.Inner.{PickT}
use Rattle.flow_def.specs.Overfull.{unmarked}
use Rattle.sheet_def.specs.declared.Sheet.{Sheet}
use Rattle.sheet_def.specs.declared.Balance.{Balance}
use Rattle.sheet_def.specs.declared.Outcome.{Outcome}
use Rattle.sheet_def.specs.Counters.{next_of, raised}
use Rattle.sheet_def.specs.Drawings.{sheet_bytes}
use Rattle.sheet_def.specs.Sentences.{RefusedWith}

-- The sheet of a balance with so many streams, under the office's next number; the slice past it as it was.
abbrev pub Filled : ℕ → Balance → ℕ → List ℕ → List ℕ → List ℕ → Sheet → Type 0
Filled count b office lasts o o' r =
    (r ≡ record { number = 0; written = length (sheet_bytes office count (next_of office lasts) b); lasts = raised office lasts; marked = unmarked })
    × (o' ≡ over (sheet_bytes office count (next_of office lasts) b) o)

-- That of an outcome's balance; or refusal 19, which marks its set.
abbrev pub DrawnOf : ℕ → Outcome → ℕ → List ℕ → List ℕ → List ℕ → Sheet → Type 0
DrawnOf count u office lasts o o' r = PickT u.found (Filled count u.balance office lasts o o' r) (RefusedWith u.marked 19 lasts o o' r)

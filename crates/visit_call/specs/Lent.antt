-- Meters worth a visit, handed over in two lent slices: the streams' numbers and the costs.
use Rattle.std.specs.Prelude.{List, ℕ, ◌≤◌, length, take}
use Rattle.num_bytes.specs.Bytes.{over}
use Rattle.plant_def.specs.Limits.{max_streams}
use Rattle.num_lent.specs.Lending.{Lending}
use Rattle.visit_def.specs.Results.{Visits}
use Rattle.visit_def.specs.Says.{no_visits, VisitsSays}

-- What an answer shows: number and count; the streams' numbers at the front of the one slice, their costs at the front of the other, the
-- rest of both as it was. (A refusal lists none: the slices are as they were.)
abbrev pub visits_shown : List ℕ → List ℕ → Visits → ℕ × ℕ × List ℕ × List ℕ
visits_shown ns cs v = (v.number, v.count, over (take v.count v.streams) ns, over (take v.count v.costs) cs)

-- The call over two slices, each to hold as many as there may be streams: what is found after it.
abbrev pub VisitsFound : (file ns cs : List ℕ) → ℕ × ℕ × List ℕ × List ℕ → Type 0
VisitsFound file ns cs = Lending ((max_streams ≤ length ns) × (max_streams ≤ length cs)) no_visits (VisitsSays file) (visits_shown ns cs)

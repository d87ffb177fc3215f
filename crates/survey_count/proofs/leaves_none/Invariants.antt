-- `leaves_none` meets its contract: each stream passed has a meter or joined two groups.
use Rattle.survey_def.proofs.Turns.{Passed}
use Rattle.survey_count.proofs.leaves_none.Given as goal

abbrev pub invariant-loop-j : goal.invariant-loop-j
invariant-loop-j l = Passed l.fn.streams l.m l.labels l.j

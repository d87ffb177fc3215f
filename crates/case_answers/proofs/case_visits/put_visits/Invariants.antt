-- Each turn lends the rest from its stream on.
use mathlib.Core.Path.{◌≡◌}
use lib.ListN.{length}
use Rattle.case_answers.proofs.case_visits.put_visits.Given as goal

abbrev pub invariant-loop-k : goal.invariant-loop-k
invariant-loop-k l = length l.out ≡ length l.initial.out

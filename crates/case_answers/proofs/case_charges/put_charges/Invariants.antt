-- Each turn lends the rest from its charge on.
use mathlib.Core.Path.{◌≡◌}
use lib.ListN.{length}
use Rattle.case_answers.proofs.case_charges.put_charges.Given as goal

abbrev pub invariant-loop-k : goal.invariant-loop-k
invariant-loop-k l = length l.out ≡ 864

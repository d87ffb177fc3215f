-- Each turn lends the rest from its count on.
use Rattle.std.proofs.Common.{◌≡◌, length}
use Rattle.case_calls.proofs.meters.put_counts.Given as goal

abbrev pub invariant-loop-k : goal.invariant-loop-k
invariant-loop-k l = length l.out ≡ 26

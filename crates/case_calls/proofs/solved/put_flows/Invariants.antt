-- Each turn lends the rest from its flow on.
use Rattle.std.proofs.Common.{◌≡◌, length}
use Rattle.case_calls.proofs.solved.put_flows.Given as goal

abbrev pub invariant-loop-i : goal.invariant-loop-i
invariant-loop-i l = length l.out ≡ 768

-- Each turn adds one stream.
use Rattle.flow_test.proofs.Summing.{Classed, Weighed}
use Rattle.flow_test.proofs.adjusted_weights.Given as goal

abbrev pub invariant-loop-i : goal.invariant-loop-i
invariant-loop-i l = Classed l.p l.classes × Weighed l.p l.sum l.i

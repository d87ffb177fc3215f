-- Each turn adds one stream.
use Rattle.sheet_cost.proofs.Costing.{Costed, Summed}
use Rattle.sheet_cost.proofs.cost_of.Given as goal

abbrev pub invariant-loop-i : goal.invariant-loop-i
invariant-loop-i l = Costed l.p l.flows × Summed l.p l.flows l.sum l.i

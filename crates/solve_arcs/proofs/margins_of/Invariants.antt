-- `solve_arcs::margins_of` meets its contract: the first i streams have their margins.
use Rattle.solve_arcs.specs.ArcNeeds.{Margined}
use Rattle.solve_arcs.proofs.margins_of.Given as goal

abbrev pub invariant-loop-i : goal.invariant-loop-i
invariant-loop-i l = Margined l.i l.rows l.flows l.delta 0 l.margins

-- `solve_forest::span` meets its contract: each pass keeps what is asked of a forest, and what is grown from the labels can be
-- routed along.
use Rattle.solve_forest.specs.Forests.{Spanning, ListedOf, FreeOf}
use Rattle.solve_forest.proofs.span.Given as goal

abbrev pub invariant-loop : goal.invariant-loop
invariant-loop l = Spanning l.reached l.forest.via l.forest.into l.forest.len × ListedOf l.arcs l.rows l.forest.via l.forest.len × FreeOf l.arcs l.rows l.listed l.n

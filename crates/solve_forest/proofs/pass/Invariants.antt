-- `solve_forest::pass` meets its contract: each stream keeps what is asked of a forest.
use Rattle.solve_forest.specs.Forests.{Spanning, ListedOn}
use Rattle.solve_forest.proofs.pass.Given as goal

abbrev pub invariant-loop-i : goal.invariant-loop-i
invariant-loop-i l =
    Spanning l.reached l.forest.via l.forest.into l.forest.len
    × ListedOn l.arcs l.listed l.initial.forest.via l.initial.forest.len l.forest.via l.forest.len

-- `solve_forest::route` meets its contract: each stream routed keeps the lengths and the room, and the metered amounts.
use Rattle.std.proofs.Common.{◌≡◌, length, take}
use Rattle.plant_def.specs.Limits.{places}
use Rattle.solve_forest.specs.Routes.{Routes, Unchanged, Routing}
use Rattle.solve_forest.proofs.route.Given as goal

abbrev pub invariant-loop-k : goal.invariant-loop-k
invariant-loop-k l =
    (length l.nets ≡ places)
    × ((w : Routing l.arcs l.f l.initial.flows) → Routes (take w.laying.n w.laying.streams) l.flows × Unchanged w.laying.streams w.laying.n l.initial.flows l.flows)

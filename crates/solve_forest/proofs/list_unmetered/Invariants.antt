-- `solve_forest::list_unmetered` meets its contract: of the first i streams the unmetered ones are listed.
use Rattle.std.proofs.Common.{◌≡◌, ◌≤◌, length}
use Rattle.plant_def.specs.Limits.{max_streams}
use Rattle.solve_forest.specs.Forests.{ListedOf}
use Rattle.solve_forest.proofs.list_unmetered.Given as goal

abbrev pub invariant-loop-i : goal.invariant-loop-i
invariant-loop-i l =
    (l.n ≤ l.i) × (l.count ≤ max_streams) × (length l.listed ≡ max_streams) × ListedOf l.arcs l.rows l.listed l.n

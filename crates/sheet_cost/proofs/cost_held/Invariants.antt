-- Each turn adds one stream, by its row.
use mathlib.Core.List.{map}
use Rattle.plant_def.specs.declared.Plant.{Plant}
use Rattle.solve_def.specs.Held.{unshifted}
use Rattle.solve_arcs_fill.specs.Plants.{LaidOf}
use Rattle.sheet_cost.proofs.Costing.{Summed}
use Rattle.sheet_cost.proofs.cost_held.Given as goal

abbrev pub invariant-loop-i : goal.invariant-loop-i
invariant-loop-i l = (p : Plant) → LaidOf p l.arcs l.rows → Summed p (map unshifted l.flows) l.sum l.i

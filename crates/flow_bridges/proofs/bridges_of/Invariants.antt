-- `flow_bridges::bridges_of` meets its contract: after i turns, what holds after i steps.
use Rattle.plant_def.specs.declared.Plant.{Plant}
use Rattle.flow_def.proofs.Passed.{Passed}
use Rattle.solve_arcs_fill.specs.Plants.{LaidOf}
use Rattle.flow_bridges.proofs.bridges_of.Given as goal

abbrev pub invariant-loop-i : goal.invariant-loop-i
invariant-loop-i l = (p : Plant) → LaidOf p l.arcs l.rows → Passed p l.i l.initial.taken l.labels l.sides l.taken l.looped

-- `flow_components::group` meets its contract: after i turns the labels are those of the groups by the first i streams.
use Rattle.plant_def.specs.declared.Plant.{Plant}
use Rattle.plant_def.specs.Says.{plant_of}
use Rattle.flow_def.specs.Groups.{Groups}
use Rattle.flow_def.specs.Calls.{counting}
use Rattle.solve_arcs_fill.specs.Plants.{LaidOf}
use Rattle.flow_components.proofs.group.Given as goal

abbrev pub invariant-loop-i : goal.invariant-loop-i
invariant-loop-i l = ((p : Plant) → LaidOf p l.arcs l.rows → Groups (counting l.which) (plant_of p).streams l.i l.labels)

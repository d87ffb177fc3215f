-- After j turns the labels are those after j steps.
use Rattle.plant_def.specs.Says.{plant_of}
use Rattle.flow_def.proofs.Grouping.{Labelled}
use Rattle.foreign_def.specs.Test.{withheld_only}
use Rattle.foreign_sets.proofs.labels_by.Given as goal

abbrev pub invariant-loop-j : goal.invariant-loop-j
invariant-loop-j l = Labelled (withheld_only (plant_of l.p)) l.p l.labels l.j

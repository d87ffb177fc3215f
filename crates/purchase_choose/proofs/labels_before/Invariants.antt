-- After j turns the labels are those after j steps.
use lib.ListN.{get_or}
use Rattle.flow_def.proofs.Grouping.{Labelled}
use Rattle.purchase_def.specs.Choosing.{dearer}
use Rattle.purchase_choose.proofs.labels_before.Given as goal

abbrev pub invariant-loop-j : goal.invariant-loop-j
invariant-loop-j l = Labelled (dearer (λ k. get_or l.prices k 0) l.i) l.p l.labels l.j

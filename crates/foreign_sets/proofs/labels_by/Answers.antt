-- After j turns the labels are those after j steps.
use mathlib.Core.Path.{◌∙◌}
use Rattle.plant_def.proofs.Arrayed.{stream_within}
use Rattle.flow_def.proofs.Grouping.{labelled_none, labelled_long, labelled_more, labelled_all}
use Rattle.foreign_sets.proofs.Carrying as C
use Rattle.foreign_sets.proofs.labels_by.Goals as goal

pub loop-j-init : goal.loop-j-init
loop-j-init c = labelled_none _ _ _ c.own_numbers-labels.ensures

pub step-requires : goal.step-requires
step-requires c =
    (stream_within c.args.p c.requires.0 _ c.loop-j-test.true, labelled_long c.loop-j.invariant)

pub loop-j-preserved : goal.loop-j-preserved
loop-j-preserved c =
    let counts = c.is_withheld.ensures ∙ C.withheld_at c.args.p c.requires.0 c.args.classes c.requires.1 _ c.loop-j-test.true in
    labelled_more c.loop-j.invariant c.requires.0 c.loop-j-test.true counts c.step.ensures

pub returns : goal.returns
returns c = labelled_all c.loop-j.invariant c.requires.0 c.loop-j-test.false

-- `leaves_none` meets its contract: each stream passed has a meter or joined two groups.
use mathlib.Core.Path.{refl, sym}
use borrow.Author.Tests.{eq-eqb, ne_eqb}
use Rattle.num_bytes.proofs.Tests.{and_both}
use Rattle.survey_def.proofs.Turns.{passed_none, passed_long, passed_closed, passed_more}
use Rattle.survey_count.proofs.leaves_none.Goals as goal
use Rattle.survey_count.proofs.leaves_none.Goals.{else-bare-via-then-bare+else-one_label, else-bare-via-else-bare}

pub loop-j-init : goal.loop-j-init
loop-j-init c = passed_none _ c.requires _ _ c.own_numbers-labels.ensures

pub one_label-requires : goal.one_label-requires
one_label-requires c = (c.requires.each _ c.loop-j-test.true, passed_long _ c.requires _ _ _ c.loop-j.invariant)

pub returns-then-one_label : goal.returns-then-one_label
returns-then-one_label c =
    passed_closed _ c.requires _ _ _ c.loop-j.invariant c.loop-j-test.true (and_both _ _ (eq-eqb _ 0 c.if-bare.true) (sym c.if-one_label.ensures))

pub step-requires : goal.step-requires
step-requires c = (c.requires.each _ c.loop-j-test.true, passed_long _ c.requires _ _ _ c.loop-j.invariant)

pub loop-j-preserved : goal.loop-j-preserved
loop-j-preserved c =
    passed_more _ c.requires _ _ _ c.loop-j.invariant c.loop-j-test.true
    (elim c.else-bare.branch [
      | else-bare-via-then-bare+else-one_label w ↦ rw (eq-eqb _ 0 w.if-bare.true, ← w.if-one_label.ensures) refl
      | else-bare-via-else-bare w ↦ rw (ne_eqb _ 0 w.if-bare.false) refl
    ])
    _ c.step.ensures

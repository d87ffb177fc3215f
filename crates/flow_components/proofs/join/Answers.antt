-- `flow_components::join` meets its contract: it leaves the labels as they are, or gives both ends' groups the lower label.
use mathlib.Core.Path.{◌∙◌}
use native.Mathlib.Nat.{le_of_lt}
use Rattle.plant_def.specs.Plants.{unmetered}
use Rattle.flow_def.proofs.Labels.{stepped_none, stepped_one, stepped_up, stepped_down}
use Rattle.flow_def.proofs.Grouping.{step_says}
use Rattle.flow_components.proofs.join.Goals as goal

pub returns-then-not-counts : goal.returns-then-not-counts
returns-then-not-counts c = λ s e f.
    let a = c.args in
    step_says a.counts s a.labels.now _ (stepped_none a.counts s a.labels.now (c.if-not-counts.true))

pub returns-then-a-b : goal.returns-then-a-b
returns-then-a-b c = λ s e f.
    let a = c.args in
    let counts = c.if-not-counts.false in
    step_says a.counts s a.labels.now _ (stepped_one a.counts s a.labels.now counts (rw (e, f) c.if-a-b.true))

pub returns-then-a-b-2 : goal.returns-then-a-b-2
returns-then-a-b-2 c = λ s e f.
    let a = c.args in
    let counts = c.if-not-counts.false in
    step_says a.counts s a.labels.now _
    (rw (e, f) (c.rename.ensures ∙ stepped_up a.counts (unmetered a.u a.v) a.labels.now counts c.if-a-b-2.true))

pub returns : goal.returns
returns c = λ s e f.
    let a = c.args in
    let counts = c.if-not-counts.false in
    step_says a.counts s a.labels.now _
    (rw (e, f) (c.rename-2.ensures ∙ stepped_down a.counts (unmetered a.u a.v) a.labels.now counts (le_of_lt c.if-a-b-2.false)))

-- `flow_classes::class_of` meets its contract.
use mathlib.Core.Path.{sym, ◌∙◌}
use mathlib.Core.Bool.{true, false}
use Rattle.flow_def.proofs.BySides.{in_metered, in_unmetered}
use Rattle.flow_classes.proofs.class_of.Goals as goal

pub returns-then-same : goal.returns-then-same
returns-then-same c = λ s m e f.
    let a = c.args in
    in_metered a.labels.now s a.h a.looped (m ∙ c.if-metered.true) true (rw (e, f) (sym c.if-same.true-raw))

pub returns-else-same : goal.returns-else-same
returns-else-same c = λ s m e f.
    let a = c.args in
    in_metered a.labels.now s a.h a.looped (m ∙ c.if-metered.true) false (rw (e, f) (sym c.if-same.false-raw))

pub returns-then-loops : goal.returns-then-loops
returns-then-loops c = λ s m e f.
    let a = c.args in
    in_unmetered a.labels.now s a.h a.looped (m ∙ c.if-metered.false) true c.if-loops.true-raw

pub returns-else-loops : goal.returns-else-loops
returns-else-loops c = λ s m e f.
    let a = c.args in
    in_unmetered a.labels.now s a.h a.looped (m ∙ c.if-metered.false) false c.if-loops.false-raw

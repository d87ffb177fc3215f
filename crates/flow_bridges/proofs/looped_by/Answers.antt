-- `flow_bridges::looped_by` meets its contract.
use mathlib.Core.Path.{refl, ◌∙◌}
use Rattle.flow_bridges.proofs.Choices.{looped_none, looped_way}
use Rattle.flow_bridges.proofs.looped_by.Goals as goal

pub returns-then-metered-apart : goal.returns-then-metered-apart
returns-then-metered-apart c = λ s r m.
    let a = c.args in
    looped_none a.labels.now a.sides.now s _ _ m (rw (r.start, r.end) refl) c.if-metered-apart.true

pub returns-else-metered-apart : goal.returns-else-metered-apart
returns-else-metered-apart c = λ s r m.
    let a = c.args in
    c.way_between-way.ensures s r ∙ looped_way a.labels.now a.sides.now s _ _ m (rw (r.start, r.end) refl) c.if-metered-apart.false

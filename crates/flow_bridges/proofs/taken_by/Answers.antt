-- `flow_bridges::taken_by` meets its contract.
use mathlib.Core.Path.{refl, ◌∙◌}
use Rattle.flow_bridges.proofs.Choices.{taken_none, taken_higher}
use Rattle.flow_bridges.proofs.taken_by.Goals as goal

pub returns-then-metered-a : goal.returns-then-metered-a
returns-then-metered-a c = λ s r m. taken_none c.args.labels.now s _ _ m (rw (r.start, r.end) refl) c.if-metered-a.true

pub returns-else-metered-a : goal.returns-else-metered-a
returns-else-metered-a c = λ s r m.
    let ls = c.args.labels.now in
    rw (← r.start, ← r.end) at c.max.ensures ∙ taken_higher ls s _ _ m (rw (r.start, r.end) refl) c.if-metered-a.false

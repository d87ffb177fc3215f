-- `flow_bridges::part` meets its contract.
use mathlib.Core.Path.{◌∙◌}
use Rattle.flow_def.proofs.BySides.{parted_none}
use Rattle.flow_def.proofs.Passed.{shifted, part_by}
use Rattle.flow_bridges.proofs.part.Goals as goal

pub returns-then-h-eq0 : goal.returns-then-h-eq0
returns-then-h-eq0 c = λ s r. let a = c.args in parted_none a.labels.now a.sides.now s a.h c.if-h-eq0.true

pub returns : goal.returns
returns c = λ s r.
    let a = c.args in
    c.turn.ensures ∙ part_by a.labels.now a.sides.now s a.h _ _ c.if-h-eq0.false
    (c.way_between-way.ensures s r) (shifted a.h c.requires.4)

-- `flow_bridges::turned_sides` meets its contract.
use mathlib.Core.Path.{refl}
use borrow.Author.Tests.{eq-eqb, ne_eqb}
use Rattle.flow_bridges.proofs.turned_sides.Goals as goal

pub returns-then-label-h : goal.returns-then-label-h
returns-then-label-h c = let a = c.args in rw (eq-eqb a.label a.h c.if-label-h.true) refl

pub returns : goal.returns
returns c = let a = c.args in rw (ne_eqb a.label a.h c.if-label-h.false) refl

-- `solve_arcs::high_of` meets its contract: by whether the stream has a range.
use mathlib.Core.Path.{sym, ◌∙◌, ap}
use native.Mathlib.Omega.{arith}
use mir.Val.{SFits}
use mir.Syntax.{w32}
use mir.Facts.{to_z-of_z}
use borrow.Author.Rules.{rules}
use Rattle.solve_def.specs.Held.{shifted}
use Rattle.solve_def.proofs.Bounds.{high_is, high_free}
use Rattle.solve_arcs.proofs.high_of.Goals as goal

pub returns-then-s-2 : goal.returns-then-s-2
returns-then-s-2 c =
    let s = c.args.s in
    let fits : SFits w32 s.high = search rules in
    (c.hold.ensures.0 ∙ ap shifted (to_z-of_z fits) ∙ sym (high_is s (rw (c.if-s.true, c.if-s-2.true))), c.hold.ensures.1)

pub returns-else-s-2 : goal.returns-else-s-2
returns-else-s-2 c = (sym (high_free c.args.s (rw (c.if-s.true, c.if-s-2.false))), omega arith)

pub returns-else-s : goal.returns-else-s
returns-else-s c = (sym (high_free c.args.s (rw c.if-s.false)), omega arith)

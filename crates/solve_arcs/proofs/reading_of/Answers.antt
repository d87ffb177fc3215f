-- `solve_arcs::reading_of` meets its contract: the reading as it is held.
use mathlib.Core.Path.{◌∙◌, ap}
use mir.Val.{SFits}
use mir.Syntax.{w32}
use mir.Facts.{to_z-of_z}
use borrow.Author.Rules.{rules}
use Rattle.solve_def.specs.Held.{shifted}
use Rattle.solve_arcs.proofs.reading_of.Goals as goal

pub returns : goal.returns
returns c =
    let fits : SFits w32 c.args.s.reading = search rules in
    (c.hold.ensures.0 ∙ ap shifted (to_z-of_z fits), c.hold.ensures.1)

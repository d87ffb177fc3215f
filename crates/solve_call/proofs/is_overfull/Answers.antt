-- `solve_call::is_overfull` meets its contract: a guess of no place is none, any other is tested.
use mathlib.Core.Path.{sym, ap, ◌∙◌}
use mathlib.Core.Bool.{false≢true}
use lib.ListN.{take}
use Rattle.solve_def.specs.Full.{overfull}
use Rattle.solve_call.proofs.is_overfull.Goals as goal

pub returns-else-guess-ne0 : goal.returns-else-guess-ne0
returns-else-guess-ne0 c = λ w e. absurd (false≢true (rw c.if-guess-ne0.false at e))

pub overfull-requires : goal.overfull-requires
overfull-requires c = c.requires

pub returns-then-guess-ne0 : goal.returns-then-guess-ne0
returns-then-guess-ne0 c = λ w t. ap (overfull (take w.n w.streams)) (sym c.marks_of.ensures) ∙ sym (c.overfull.ensures w) ∙ t

-- `solve_path::walking::walk` meets its contract: with `left` steps to go the walk comes to what it comes to from the start.
use Rattle.solve_path.proofs.Going.{Going}
use Rattle.solve_path.proofs.walking.walk.Given as goal

abbrev pub invariant-loop-left : goal.invariant-loop-left
invariant-loop-left l = Going l.arcs l.margins l.potentials l.nets l.s l._left l.at l.t l.dist l.near

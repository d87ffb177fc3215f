-- `solve_path::walking::tight_walk` meets its contract: with `left` steps to go the walk comes to what it comes to from the start.
use Rattle.solve_path.proofs.Tight.{Tight}
use Rattle.solve_path.proofs.walking.tight_walk.Given as goal

abbrev pub invariant-loop-left : goal.invariant-loop-left
invariant-loop-left l = Tight l.arcs l.margins l.potentials l.s l.v l._left l.at l.t l.near

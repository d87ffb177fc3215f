-- `solve_path::relax` meets its contract: what is left of the arcs comes to what all come to from the start.
use Rattle.solve_arcs.proofs.Passing.{left_of}
use Rattle.solve_path.proofs.Coding.{Turn}
use Rattle.solve_path.proofs.relax.Given as goal

abbrev pub invariant-loop-arc : goal.invariant-loop-arc
invariant-loop-arc l = Turn l.arcs l.margins l.potentials l.at.distance l.at.place l.initial.near l.at.fringe l.near l.fringe l.arc

abbrev pub decreases-loop-arc : goal.decreases-loop-arc
decreases-loop-arc l = left_of l.arc

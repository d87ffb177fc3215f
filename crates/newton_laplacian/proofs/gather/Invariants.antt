-- `newton_laplacian::gather` meets its contract: no more streams are gathered than were passed, and their groups are among the places.
use Prim.Native.Nat.{◌≤◌}
use Rattle.newton_laplacian.specs.Ends.{Long, StillEnds}
use Rattle.newton_laplacian.proofs.gather.Given as goal

abbrev pub invariant-loop-i : goal.invariant-loop-i
invariant-loop-i l = (l.k ≤ l.i) × Long l.ends l.meters × StillEnds l.labels l.arcs l.rows l.initial.ends l.ends

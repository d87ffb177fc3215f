-- `solve_path::walking::nearest` meets its contract: of the places of the fringe that are looked at the nearest is known, and its code.
use Prim.Native.Nat.{◌≤◌}
use Rattle.plant_def.specs.Limits.{places}
use Rattle.solve_path.proofs.Pacing.{Scanned}
use Rattle.solve_path.proofs.walking.nearest.Given as goal

abbrev pub invariant-loop-left : goal.invariant-loop-left
invariant-loop-left l = (l.at ≤ places) × Scanned l.near l.fringe l.left l.at l.best

abbrev pub decreases-loop-left : goal.decreases-loop-left
decreases-loop-left l = l.left

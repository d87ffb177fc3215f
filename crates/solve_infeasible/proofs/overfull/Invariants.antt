-- `solve_infeasible::overfull` meets its contract: the first i streams may stand where they stand, and what they press is summed.
use mathlib.Core.Path.{◌≡◌}
use mathlib.Core.Bool.{true}
use Prim.Native.Nat.{◌≤◌, ◌*◌}
use Rattle.plant_def.specs.Limits.{max_streams}
use Rattle.solve_def.specs.Sizes.{most_flow}
use Rattle.solve_def.specs.Full.{bounded_to, pressed_to}
use Rattle.solve_arcs.specs.ArcNeeds.{OfStreams}
use Rattle.solve_infeasible.proofs.overfull.Given as goal

abbrev pub invariant-loop-i : goal.invariant-loop-i
invariant-loop-i l =
    (l.sum ≤ l.i * most_flow)
    × OfStreams l.arcs l.rows (λ ss m. (bounded_to ss l.marked l.i ≡ true) × (l.sum ≡ pressed_to ss l.marked l.i))
    × (l.n ≤ max_streams)

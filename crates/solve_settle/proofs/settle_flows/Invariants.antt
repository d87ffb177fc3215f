-- `solve_settle::settle_flows` meets its contract: the first i streams are settled.
use mathlib.Core.Path.{◌≡◌}
use Prim.Native.Nat.{◌≤◌}
use Rattle.plant_def.specs.Limits.{max_streams}
use Rattle.solve_def.specs.Model.{settled_to}
use Rattle.solve_arcs.specs.ArcNeeds.{OfStreams}
use Rattle.solve_settle.proofs.settle_flows.Given as goal

abbrev pub invariant-loop-i : goal.invariant-loop-i
invariant-loop-i l =
    OfStreams l.arcs l.rows (λ ss m. l.flows ≡ settled_to ss l.potentials l.initial.flows l.i) × (l.n ≤ max_streams)

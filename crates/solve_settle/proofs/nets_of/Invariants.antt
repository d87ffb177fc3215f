-- `solve_settle::nets_of` meets its contract: the first i streams are booked.
use mathlib.Core.Path.{◌≡◌}
use mathlib.Core.List.{List}
use Prim.Native.Nat.{ℕ, ◌≤◌}
use lib.ListN.{take}
use Rattle.solve_def.specs.Model.{nets_to}
use Rattle.plant_def.specs.Limits.{max_streams}
use Rattle.solve_arcs.specs.ArcNeeds.{Laying}
use Rattle.solve_settle.proofs.nets_of.Given as goal

abbrev pub invariant-loop-i : goal.invariant-loop-i
invariant-loop-i l =
    ((rs : List ℕ) (w : Laying l.arcs rs) → l.nets ≡ nets_to (take w.n w.streams) l.flows l.i) × (l.n ≤ max_streams)

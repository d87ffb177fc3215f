-- `solve_phases::finishing::phases` meets its contract: what is left of the phases comes to what all come to.
use mathlib.Core.Path.{◌≡◌}
use lib.ListN.{length, take}
use Rattle.solve_def.proofs.PhaseTurns.{Staged}
use Rattle.solve_def.proofs.CountTurns.{Tallied}
use Rattle.solve_settle.specs.Hints.{hint_of}
use Rattle.solve_arcs.specs.Cells.{margin_cells}
use Rattle.solve_arcs.specs.ArcNeeds.{Laying}
use Rattle.solve_phases.proofs.finishing.phases.Given as goal

abbrev pub invariant-loop-step : goal.invariant-loop-step
invariant-loop-step l =
    ((w : Laying l.arcs l.rows) → let ss = take w.n w.streams in Staged ss l.step (hint_of l.state.flows l.state.potentials) × Tallied ss l.step (hint_of l.state.flows l.state.potentials) l.made)
    × (length l.margins ≡ margin_cells)

abbrev pub decreases-loop-step : goal.decreases-loop-step
decreases-loop-step l = l.step

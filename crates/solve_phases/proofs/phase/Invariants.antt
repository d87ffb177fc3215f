-- `solve_phases::phase` meets its contract: the places one after the other.
use mathlib.Core.Path.{◌≡◌}
use lib.ListN.{take}
use Rattle.solve_def.specs.Model.{phase_to, going}
use Rattle.solve_def.specs.Made.{made_to}
use Rattle.solve_arcs.specs.ArcNeeds.{Margined}
use Rattle.solve_improve.specs.Improves.{Phasable}
use Rattle.solve_phases.proofs.phase.Given as goal

abbrev pub invariant-loop-s : goal.invariant-loop-s
invariant-loop-s l =
    let st₀ = l.initial.state in
    (w : Phasable l.arcs l.rows l.delta st₀) → let ss = take w.n w.streams in
    (phase_to l.s ss l.delta st₀ ≡ going l.state) × (l.made ≡ made_to l.s ss l.delta st₀) × Margined w.n l.rows l.state.flows l.delta 0 l.margins

-- `solve_phases::from_place` meets its contract: with the improvements to go that `over` has steps it comes to what it comes to from the
-- start.
use mathlib.Core.Path.{◌≡◌}
use Prim.Native.Nat.{◌+◌, ◌/◌, ◌≤◌}
use lib.ListN.{take}
use Rattle.solve_def.specs.Model.{from_place}
use Rattle.solve_def.specs.Made.{made_from}
use Rattle.solve_def.proofs.PhaseTurns.{Running}
use Rattle.solve_arcs.specs.ArcNeeds.{Margined}
use Rattle.solve_improve.specs.Improves.{Improvable}
use Rattle.solve_phases.specs.Phases.{steps_at}
use Rattle.solve_phases.proofs.from_place.Given as goal

-- What is made and what is over come to no more than was over; what is made and what is to be made, to all that is made.
abbrev pub invariant-loop-over : goal.invariant-loop-over
invariant-loop-over l =
    let st = l.state in
    let st₀ = l.initial.state in
    (l.made + l.over ≤ l.initial.over)
    × ((w : Improvable l.arcs l.rows l.initial.margins l.q.delta st₀) → let ss = take w.n w.streams in
    Running ss l.q.delta l.q.start (l.over / l.q.delta) st
    × (from_place (l.over / l.q.delta) ss l.q.delta l.q.start st ≡ from_place (steps_at l.q st₀) ss l.q.delta l.q.start st₀)
    × (l.made + made_from (l.over / l.q.delta) ss l.q.delta l.q.start st ≡ made_from (steps_at l.q st₀) ss l.q.delta l.q.start st₀)
    × Margined w.n l.rows l.state.flows l.q.delta 0 l.margins)

abbrev pub decreases-loop-over : goal.decreases-loop-over
decreases-loop-over l = l.over

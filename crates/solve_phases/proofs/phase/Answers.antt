-- `solve_phases::phase` meets its contract: the places one after the other.
use mathlib.Core.Path.{◌≡◌}
use Prim.Native.Nat.{◌+◌}
use native.Mathlib.Omega.{arith}
use lib.ListN.{take}
use Rattle.plant_def.specs.Limits.{places}
use Rattle.solve_def.specs.declared.State.{State}
use Rattle.solve_def.specs.Made.{made_to}
use Rattle.solve_def.proofs.Streams.{solvable_of}
use Rattle.solve_def.proofs.PhaseTurns.{phase_none, phase_underway, phase_next, phase_full, phase_end}
use Rattle.solve_def.proofs.CountTurns.{phase_made_none, phase_made_next, phase_made_last, phase_made_room}
use Rattle.solve_improve.specs.Improves.{Phasable, Improvable}
use Rattle.solve_improve.proofs.Improved.{phase_row, phase_few, phase_amounts, phase_margined}
use Rattle.solve_phases.proofs.phase.Goals as goal
use Rattle.solve_phases.proofs.phase.Goals.{After-from_place-h, In-loop-s, Start}

-- The state at the start.
abbrev at_first : Start → State
at_first st = st.args.state.now

abbrev Of : Start → Type 0
Of st = Phasable st.args.arcs.now st.args.rows.now st.args.delta (at_first st)

-- Improvements can be made from one place more.
abbrev able : (c : In-loop-s) → Of c.before.before.before.before.before → let at = c.loop-s in Improvable c.args.arcs.now c.args.rows.now at.margins c.args.delta at.state
able c w = record {
  streams = w.streams;
  n = w.n;
  network = w.network;
  laid = w.laid;
  step = w.step;
  underway =
      phase_underway _ (solvable_of w.streams w.n w.network) _ w.step _ w.underway c.loop-s.s (omega arith) _
      (c.loop-s.invariant w).0;
  margined = (c.loop-s.invariant w).2;
}

-- What is counted once its place has been tried: what is made from one place more.
counted : (c : After-from_place-h) → let at = c.loop-s in (w : Of c.before.before.before.before.before.before.before.before)
    → at.made + c.from_place-h.result.made ≡ made_to (at.s + 1) (take w.n w.streams) c.args.delta (at_first c.before.before.before.before.before.before.before.before)
counted c w =
    let at = c.loop-s in
    omega (
      arith,
      (at.invariant w).1,
      (c.from_place-h.ensures (able c.before.before.before w)).1,
      phase_made_next (take w.n w.streams) c.args.delta at.s (at_first c.before.before.before.before.before.before.before.before) at.state (at.invariant w).0,
    )

pub margins_of-requires : goal.margins_of-requires
margins_of-requires c =
    let w = c.requires.0 in
    rw c.count_of-count.ensures (phase_row _ _ _ _ w, phase_amounts _ _ _ _ w, phase_few _ _ _ _ w, w.step.1, c.requires.1)

pub loop-s-init : goal.loop-s-init
loop-s-init c =
    λ w. (
      phase_none _ _ _,
      omega (arith, phase_made_none (take w.n w.streams) c.args.delta (at_first (goal.at.loop-s-init c).Start)),
      phase_margined _ _ _ _ w _ _ (rw c.count_of-count.ensures at c.margins_of.ensures),
    )

pub from_place-h-requires : goal.from_place-h-requires
from_place-h-requires c =
    (able (goal.at.from_place-h-requires c).In-loop-s c.requires.0, omega arith)

pub overflow_add-made : goal.overflow_add-made
overflow_add-made c =
    let w = c.requires.0 in
    let v = solvable_of w.streams w.n w.network in
    let room = phase_made_room _ v c.args.delta w.step (at_first (goal.at.overflow_add-made c).Start) w.underway (c.loop-s.s + 1) (omega arith) in
    omega (arith, room, counted (goal.at.overflow_add-made c).After-from_place-h w)

pub returns-then-h : goal.returns-then-h
returns-then-h c = λ w.
    let at = c.loop-s in
    let full = c.if-h.true in
    let got = c.from_place-h.ensures (able (goal.at.returns-then-h c).In-loop-s w) in
    let rest =
    phase_made_last (take w.n w.streams) c.args.delta at.s (at_first (goal.at.returns-then-h c).Start) _ (omega arith) (at.invariant w).0 _ _ _
    got.0 full in (
      phase_full _ (solvable_of w.streams w.n w.network) _ w.step _ w.underway at.s (omega arith) _
          (at.invariant w).0 _ _ _ got.0 full,
      omega (arith, counted (goal.at.returns-then-h c).After-from_place-h w, rest),
      got.2,
    )

pub loop-s-preserved : goal.loop-s-preserved
loop-s-preserved c =
    let at = c.loop-s in
    λ w. let got = c.from_place-h.ensures (able (goal.at.loop-s-preserved c).In-loop-s w) in (
      phase_next _ (solvable_of w.streams w.n w.network) _ w.step _ w.underway at.s (omega arith) _
          (at.invariant w).0 _ _ _ got.0 c.if-h.false,
      counted (goal.at.loop-s-preserved c).After-from_place-h w,
      got.2,
    )

pub returns : goal.returns
returns c = λ w.
    let at = c.loop-s in
    let e : at.s ≡ places = omega arith in
    (phase_end _ _ _ _ _ e (at.invariant w).0, rw e at (at.invariant w).1, (at.invariant w).2)

-- `solve_phases::from_place` meets its contract: with the improvements to go that `over` has steps it comes to what it comes to from the
-- start.
use mathlib.Core.Path.{◌≡◌, refl, ◌∙◌}
use mathlib.Core.Bool.{Bool, true, false}
use mathlib.Core.List.{List}
use Prim.Native.Nat.{◌-◌, ◌/◌, ◌<◌}
use native.Mathlib.Nat.{le-div_iff_mul-le, div-eq-sub-div, div-eq_of_lt}
use native.Mathlib.Omega.{arith}
use mir.Syntax.{w64}
use mir.Val.{Fits}
use borrow.Author.Rules.{rules}
use borrow.Author.Tests.{not-true, not-false}
use lib.ListN.{take}
use Rattle.num_bytes.specs.Choice.{pick}
use Rattle.solve_def.specs.declared.Halt.{Halt}
use Rattle.solve_def.specs.declared.State.{State}
use Rattle.flow_def.specs.Overfull.{unmarked}
use Rattle.solve_def.specs.Model.{ended_by, going}
use Rattle.solve_def.specs.Full.{overfull}
use Rattle.solve_def.proofs.Streams.{solvable_of}
use Rattle.solve_def.proofs.PhaseTurns.{running_start, running_over, running_next, stuck_same, from_none, from_next, from_stuck}
use Rattle.solve_def.proofs.CountTurns.{made_none, made_next, made_stuck}
use Rattle.solve_improve.specs.Improves.{Improvable}
use Rattle.solve_improve.proofs.Improved.{improve_laying}
use Rattle.solve_phases.proofs.from_place.Goals as goal
use Rattle.solve_phases.proofs.from_place.Goals.{In-loop-over, Start}

abbrev Of : Start → Type 0
Of st =
    Improvable st.args.arcs.now st.args.rows.now st.args.margins.now st.args.q.delta
    st.args.state.now

-- One improvement more can be made.
abbrev able : (c : In-loop-over) → Of c.before.before.before.before.before.before → let at = c.loop-over in Improvable c.args.arcs.now c.args.rows.now at.margins c.args.q.delta at.state
able c w =
    let at = c.loop-over.invariant.1 w in
    record { streams = w.streams; n = w.n; network = w.network; laid = w.laid; step = w.step; underway = at.0.underway; margined = at.3 }

-- What is handed over where none can be made.
halted : (b : Bool) (st now : State) (ms : List Bool) (r : Halt) → now ≡ st
    → r ≡ pick b (record { full = true; marked = ms }) (record { full = false; marked = unmarked })
    → ended_by r.full now r.marked ≡ pick b (ended_by true st ms) (going st)
halted true st now ms r e q = rw (q, e)
halted false st now ms r e q = rw (q, e)

-- There is a step to be made; and what is left after it.
some : (c : In-loop-over) → 0 < c.loop-over.over / c.args.q.delta
some c = (le-div_iff_mul-le c.requires.0.step.0).1 (omega (arith, c.loop-over-test.true))

fewer : (c : In-loop-over) → let d = c.args.q.delta in
    (c.loop-over.over - d) / d ≡ c.loop-over.over / d - 1
fewer c = omega (arith, div-eq-sub-div c.requires.0.step.0 c.loop-over-test.true)

pub loop-over-init : goal.loop-over-init
loop-over-init c = (omega arith, λ w. rw c.saturating_sub-over.ensures (running_start _ _ _ _ w.step w.underway, refl, omega arith, w.margined))

pub improve_from-h-requires : goal.improve_from-h-requires
improve_from-h-requires c =
    let w = c.requires.0 in
    (able (goal.at.improve_from-h-requires c).In-loop-over w, c.requires.1, running_over _ _ _ _ _ (some (goal.at.improve_from-h-requires c).In-loop-over) (c.loop-over.invariant.1 w).0)

pub tested-full-requires : goal.tested-full-requires
tested-full-requires c =
    improve_laying _ _ _ _ _ c.requires.0

pub returns-then-not-h : goal.returns-then-not-h
returns-then-not-h c = λ w.
    let at = c.loop-over.invariant.1 w in
    let got = c.improve_from-h.ensures (able (goal.at.returns-then-not-h c).In-loop-over w) in
    let q = not-true _ c.if-not-h.true in
    let l = some (goal.at.returns-then-not-h c).In-loop-over in
    let ms = c.improve_from-h.result.tree.visited in (
      halted (overfull (take w.n w.streams) ms) _ _ ms _
          (stuck_same _ _ _ _ _ _ _ _ got.0 l (solvable_of w.streams w.n w.network) w.step c.requires.1 at.0 q)
          (c.tested-full.ensures (improve_laying _ _ _ _ _ w))
          ∙ from_stuck _ _ _ _ _ _ _ _ got.0 l q
          ∙ at.1,
      omega (arith, at.2, made_stuck _ _ _ _ _ _ _ _ got.0 l q),
      got.1,
    )

pub overflow_add-made : goal.overflow_add-made
overflow_add-made c =
    let f : Fits w64 c.saturating_sub-over.result = search rules in
    omega (arith, f.fits, c.loop-over.invariant.0, c.loop-over-test.true, c.requires.0.step.0)

pub loop-over-preserved : goal.loop-over-preserved
loop-over-preserved c =
    let l = some (goal.at.loop-over-preserved c).In-loop-over in (
      omega (arith, c.loop-over.invariant.0, c.loop-over-test.true, c.requires.0.step.0),
      λ w.
          let at = c.loop-over.invariant.1 w in
          let got = c.improve_from-h.ensures (able (goal.at.loop-over-preserved c).In-loop-over w) in
          let q = not-false _ c.if-not-h.false in rw (fewer (goal.at.loop-over-preserved c).In-loop-over) (
            running_next _ _ _ _ _ _ _ _ got.0 l (solvable_of w.streams w.n w.network) w.step c.requires.1 at.0 q,
            from_next _ _ _ _ _ _ _ _ got.0 l q ∙ at.1,
            omega (arith, at.2, made_next _ _ _ _ _ _ _ _ got.0 l q),
            got.1,
          ),
    )

pub returns : goal.returns
returns c = λ w.
    let l = c.loop-over in
    let at = l.invariant.1 w in
    let q = c.args.q in
    let z : l.over / q.delta ≡ 0 = div-eq_of_lt c.loop-over-test.false in
    let none = made_none (take w.n w.streams) q.delta q.start l.state in
    (from_none _ _ _ _ ∙ (rw z at at.1), omega (arith, none, rw z at at.2), at.3)

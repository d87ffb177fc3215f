-- `solve_phases::finishing::phases` meets its contract: what is left of the phases comes to what all come to.
use mathlib.Core.Path.{◌≡◌, ◌∙◌, ap, subst}
use Prim.Native.Nat.{ℕ, ◌+◌, ◌≤◌}
use native.Mathlib.Nat.{div-add-mod}
use native.Mathlib.Omega.{arith}
use lib.ListN.{take}
use Rattle.num_bytes.proofs.Tests.{clash}
use Rattle.plant_def.specs.Limits.{places}
use Rattle.solve_def.specs.Sizes.{most_excess, settled_room}
use Rattle.solve_def.specs.declared.Hint.{Hint}
use Rattle.solve_def.specs.declared.State.{State}
use Rattle.solve_def.specs.declared.Ended.{Ended}
use Rattle.solve_def.specs.Model.{phase, settled}
use Rattle.solve_def.specs.Made.{made_to}
use Rattle.solve_def.specs.SolverNeeds.{Underway}
use Rattle.solve_def.proofs.Streams.{solvable_of}
use Rattle.solve_def.proofs.PhaseTurns.{Staged, staged_start, staged_step, staged_ready, staged_underway, staged_next, staged_full, staged_last}
use Rattle.solve_def.proofs.CountTurns.{Tallied, phase_made_room, tallied_start, tallied_room, tallied_next, tallied_full, tallied_last}
use Rattle.solve_settle.specs.Hints.{hint_of, Hinting}
use Rattle.solve_arcs.specs.ArcNeeds.{Laying}
use Rattle.solve_improve.specs.Improves.{Phasable}
use Rattle.solve_phases.proofs.finishing.phases.Goals as goal
use Rattle.solve_phases.proofs.finishing.phases.Goals.{After-phase-e-2, After-resettle-2, At-loop-step, Start}

-- Streams that the arcs are of; the amounts and the potentials that the loop is at, as a hint; the stage, and the count.
abbrev Of : Start → Type 0
Of st = Laying st.args.arcs.now st.args.rows.now

abbrev hint : At-loop-step → Hint
hint c = hint_of c.loop-step.state.flows c.loop-step.state.potentials

staged : (c : At-loop-step) (w : Of c.before.before.before) → Staged (take w.n w.streams) c.loop-step.step (hint c)
staged c w = (c.loop-step.invariant.0 w).0

tallied : (c : At-loop-step) (w : Of c.before.before.before) → Tallied (take w.n w.streams) c.loop-step.step (hint c) c.loop-step.made
tallied c w = (c.loop-step.invariant.0 w).1

settles : (c : At-loop-step) → Hinting c.args.arcs.now c.args.rows.now (hint c)
settles c =
    let w = c.requires.0 in
    record { laying = w; ready = staged_ready _ (solvable_of w.streams w.n w.network) _ _ (staged c w) }

pub loop-step-init : goal.loop-step-init
loop-step-init c =
    (λ w. rw c.forget.ensures.0 (staged_start _ (solvable_of w.streams w.n w.network), tallied_start _), c.requires.1)

pub resettle-requires : goal.resettle-requires
resettle-requires c = settles (goal.at.resettle-requires c).At-loop-step

abbrev able : (c : At-loop-step) (w : Of c.before.before.before) (st : State) → st ≡ settled (take w.n w.streams) (hint c)
    → Phasable c.args.arcs.now c.args.rows.now c.loop-step.step st
able c w st e =
    let v = solvable_of w.streams w.n w.network in
    record {
      streams = w.streams;
      n = w.n;
      network = w.network;
      laid = w.laid;
      step = staged_step _ v _ _ (staged c w);
      underway = rw e (staged_underway _ v _ _ (staged c w));
    }

pub phase-e-requires : goal.phase-e-requires
phase-e-requires c =
    let w = c.requires.0 in
    (able (goal.at.phase-e-requires c).At-loop-step w _ (c.resettle.ensures w), c.loop-step.invariant.1)

added : (c : At-loop-step) (w : Of c.before.before.before) → let ss = take w.n w.streams in
    made_to places ss c.loop-step.step (settled ss (hint c)) ≤ most_excess
added c w =
    let v = solvable_of w.streams w.n w.network in
    let s = staged c w in
    phase_made_room _ v c.loop-step.step (staged_step _ v _ _ s) _ (staged_underway _ v _ _ s) places (omega arith)

-- How the phase ends, and what is counted then.
done : (c : At-loop-step) (w : Of c.before.before.before) (st : State) → let ss = take w.n w.streams in st ≡ settled ss (hint c) → (e : Ended)
    → e ≡ phase ss c.loop-step.step st → e ≡ phase ss c.loop-step.step (settled ss (hint c))
done c w st q e p = p ∙ ap (λ (s : State). phase (take w.n w.streams) c.loop-step.step s) q

count : (c : At-loop-step) (w : Of c.before.before.before) (st : State) → let ss = take w.n w.streams in st ≡ settled ss (hint c) → (m : ℕ)
    → m ≡ made_to places ss c.loop-step.step st → c.loop-step.made + m ≡ c.loop-step.made + made_to places ss c.loop-step.step (settled ss (hint c))
count c w st q m p = ap (λ (k : ℕ). c.loop-step.made + k) (p ∙ ap (λ (s : State). made_to places (take w.n w.streams) c.loop-step.step s) q)

pub overflow_add-made : goal.overflow_add-made
overflow_add-made c =
    let w = c.requires.0 in
    let q = c.resettle.ensures w in
    omega (arith, count (goal.at.overflow_add-made c).At-loop-step w _ q _ (c.phase-e.ensures (able (goal.at.overflow_add-made c).At-loop-step w _ q)).1, added (goal.at.overflow_add-made c).At-loop-step w, tallied_room _ _ _ _ (tallied (goal.at.overflow_add-made c).At-loop-step w))

pub returns-then-e : goal.returns-then-e
returns-then-e c = λ w.
    let q = c.resettle.ensures w in
    let got = c.phase-e.ensures (able (goal.at.returns-then-e c).At-loop-step w _ q) in
    let more = c.loop-step-test.true in
    let full = c.if-e.true in (
      staged_full _ (solvable_of w.streams w.n w.network) _ _ (staged (goal.at.returns-then-e c).At-loop-step w) _ (done (goal.at.returns-then-e c).At-loop-step w _ q _ got.0) more full,
      tallied_full _ _ _ _ (tallied (goal.at.returns-then-e c).At-loop-step w) _ (done (goal.at.returns-then-e c).At-loop-step w _ q _ got.0) more _ (count (goal.at.returns-then-e c).At-loop-step w _ q _ got.1) (added (goal.at.returns-then-e c).At-loop-step w) full,
      λ o. clash _ full o,
    )

pub loop-step-smaller : goal.loop-step-smaller
loop-step-smaller c = omega (arith, div-add-mod c.loop-step.step 2)

pub loop-step-preserved : goal.loop-step-preserved
loop-step-preserved c =
    let more = c.loop-step-test.true in
    let none = c.if-e.false in (
      λ w.
          let q = c.resettle.ensures w in
          let got = c.phase-e.ensures (able (goal.at.loop-step-preserved c).At-loop-step w _ q) in (
            staged_next _ (solvable_of w.streams w.n w.network) _ _ (staged (goal.at.loop-step-preserved c).At-loop-step w) _ (done (goal.at.loop-step-preserved c).At-loop-step w _ q _ got.0) more none,
            tallied_next _ _ _ _ (tallied (goal.at.loop-step-preserved c).At-loop-step w) _ (done (goal.at.loop-step-preserved c).At-loop-step w _ q _ got.0) more _ (count (goal.at.loop-step-preserved c).At-loop-step w _ q _ got.1) (added (goal.at.loop-step-preserved c).At-loop-step w) none,
          ),
      let w = c.requires.0 in (c.phase-e.ensures (able (goal.at.loop-step-preserved c).At-loop-step w _ (c.resettle.ensures w))).2.long,
    )

pub resettle-requires-2 : goal.resettle-requires-2
resettle-requires-2 c = settles (goal.at.resettle-requires-2 c).At-loop-step

abbrev able_last : (c : After-resettle-2) → (w : Of c.before.before.before.before.before.before) (st : State)
    → st ≡ settled (take w.n w.streams) (hint c.before.before.before) → Phasable c.args.arcs.now c.args.rows.now 1 st
able_last c w st q =
    let v = solvable_of w.streams w.n w.network in
    let last : c.loop-step.step ≤ 1 = omega (arith, c.loop-step-test.false) in
    let e = (staged_last _ v _ _ (staged c.before.before.before w) last).0 in
    record {
      streams = w.streams;
      n = w.n;
      network = w.network;
      laid = w.laid;
      step = (omega arith, omega arith);
      underway =
          rw q
          (subst (λ (d : ℕ). Underway (take w.n w.streams) d settled_room (settled (take w.n w.streams) (hint c.before.before.before))) e
          (staged_underway _ v _ _ (staged c.before.before.before w)));
    }

pub phase-e-requires-2 : goal.phase-e-requires-2
phase-e-requires-2 c =
    let w = c.requires.0 in
    (able_last (goal.at.phase-e-requires-2 c).After-resettle-2 w _ (c.resettle-2.ensures w), c.loop-step.invariant.1)

counted : (c : After-phase-e-2) → (w : Of c.before.before.before.before.before.before.before.before.before) → let ss = take w.n w.streams in
    c.phase-e-2.result.made ≡ made_to places ss 1 (settled ss (hint c.before.before.before.before.before.before))
counted c w =
    let q = c.resettle-2.ensures w in
    (c.phase-e-2.ensures (able_last c.before.before.before w _ q)).1 ∙ ap (λ (z : State). made_to places (take w.n w.streams) 1 z) q

pub overflow_add-made-2 : goal.overflow_add-made-2
overflow_add-made-2 c =
    let w = c.requires.0 in
    let v = solvable_of w.streams w.n w.network in
    let b = able_last (goal.at.overflow_add-made-2 c).After-resettle-2 w _ (c.resettle-2.ensures w) in
    let room = phase_made_room _ v 1 b.step _ b.underway places (omega arith) in
    omega (arith, (c.phase-e-2.ensures b).1, room, tallied_room _ _ _ _ (tallied (goal.at.overflow_add-made-2 c).At-loop-step w))

pub returns : goal.returns
returns c = λ w.
    let ss = take w.n w.streams in
    let v = solvable_of w.streams w.n w.network in
    let last : c.loop-step.step ≤ 1 = omega (arith, c.loop-step-test.false) in
    let q = c.resettle-2.ensures w in
    let got = c.phase-e-2.ensures (able_last (goal.at.returns c).After-resettle-2 w _ q) in (
      got.0 ∙ ap (λ (z : State). phase ss 1 z) q ∙ (staged_last _ v _ _ (staged (goal.at.returns c).At-loop-step w) last).1,
      tallied_last _ _ _ _ (tallied (goal.at.returns c).At-loop-step w) last _ (ap (λ (k : ℕ). c.loop-step.made + k) (counted (goal.at.returns c).After-phase-e-2 w)),
      λ o. got.2,
    )

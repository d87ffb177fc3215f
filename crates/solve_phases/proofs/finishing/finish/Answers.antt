-- `solve_phases::finishing::finish` meets its contract: by how much is over.
use mathlib.Core.Path.{◌≡◌, sym, ◌∙◌}
use mathlib.Core.List.{List}
use Prim.Native.Nat.{ℕ, ◌≤◌, ◌<◌}
use native.Mathlib.Omega.{arith}
use borrow.Author.Tests.{le-leb, lt-leb}
use lib.ListN.{take}
use Rattle.plant_def.specs.declared.Stream.{Stream}
use Rattle.solve_def.specs.Sizes.{most_tried, halvings}
use Rattle.solve_def.specs.declared.State.{State}
use Rattle.solve_def.specs.Model.{phase, phases, finished, no_hint, excess_sum}
use Rattle.solve_def.proofs.Streams.{solvable_of}
use Rattle.solve_def.proofs.Layouts.{at_hint_around}
use Rattle.solve_def.proofs.Ending.{hint_underway}
use Rattle.solve_def.proofs.CountTurns.{made_by_hint, made_by_phases}
use Rattle.solve_improve.specs.Improves.{Phasable}
use Rattle.solve_phases.specs.Finishes.{Finishable}
use Rattle.solve_phases.proofs.finishing.finish.Goals as goal
use Rattle.solve_phases.proofs.finishing.finish.Goals.{Start}

-- Which of the two it is.
by_hint : (ss : List Stream) (st : State) (over : ℕ) → over ≡ excess_sum st.nets → over ≤ most_tried → phase ss 1 st ≡ finished ss st
unfolding finished
by_hint ss st over e l = sym (rw (← e, le-leb over most_tried l))

by_phases : (ss : List Stream) (st : State) (over : ℕ) → over ≡ excess_sum st.nets → most_tried < over → phases halvings ss no_hint ≡ finished ss st
unfolding finished
by_phases ss st over e l = sym (rw (← e, lt-leb over most_tried l))

-- The state at the start.
abbrev begun : Start → State
begun st = st.args.state.now

abbrev Able : Start → Type 0
Able st = Finishable st.args.arcs.now st.args.rows.now (begun st)

pub excess_sum-requires : goal.excess_sum-requires
excess_sum-requires c =
    let w = c.requires.0.laying in
    at_hint_around w.streams w.n w.network (begun c) c.requires.0.at_hint

-- What the phase begins from.
abbrev able : (st : Start) (over : ℕ) → over ≡ excess_sum (begun st).nets → over ≤ most_tried → Able st
    → Phasable st.args.arcs.now st.args.rows.now 1 (begun st)
able st over e l f =
    let w = f.laying in
    let v = solvable_of w.streams w.n w.network in
    record {
      streams = w.streams;
      n = w.n;
      network = w.network;
      laid = w.laid;
      step = (omega arith, omega arith);
      underway = hint_underway _ v (begun st) f.at_hint (omega (arith, e, l));
    }

pub phase-requires : goal.phase-requires
phase-requires c =
    (able (goal.at.phase-requires c).Start _ c.excess_sum.ensures c.if-excess_sum-le-MOST_TRIED.true c.requires.0, c.requires.1)

pub returns-then-excess_sum-le-MOST_TRIED : goal.returns-then-excess_sum-le-MOST_TRIED
returns-then-excess_sum-le-MOST_TRIED c = λ f.
    let ss = take f.laying.n f.laying.streams in
    let got = c.phase.ensures (able (goal.at.returns-then-excess_sum-le-MOST_TRIED c).Start _ c.excess_sum.ensures c.if-excess_sum-le-MOST_TRIED.true f) in (
      got.0 ∙ by_hint ss (begun (goal.at.returns-then-excess_sum-le-MOST_TRIED c).Start) _ c.excess_sum.ensures c.if-excess_sum-le-MOST_TRIED.true,
      omega (arith, got.1, made_by_hint ss (begun (goal.at.returns-then-excess_sum-le-MOST_TRIED c).Start) c.excess_sum.result c.excess_sum.ensures c.if-excess_sum-le-MOST_TRIED.true),
      λ n. got.2,
    )

pub phases-requires : goal.phases-requires
phases-requires c =
    (c.requires.0.laying, c.requires.1)

pub returns : goal.returns
returns c = λ f.
    let ss = take f.laying.n f.laying.streams in
    let got = c.phases.ensures f.laying in (
      got.0 ∙ by_phases ss (begun (goal.at.returns c).Start) _ c.excess_sum.ensures c.if-excess_sum-le-MOST_TRIED.false,
      got.1 ∙ made_by_phases ss (begun (goal.at.returns c).Start) _ c.excess_sum.ensures c.if-excess_sum-le-MOST_TRIED.false,
      got.2,
    )

-- `solve_call::solve_at` meets its contract: what the code computes is what the definitions give, and that is right.
use mathlib.Core.Path.{refl}
use Rattle.plant_def.specs.declared.Plant.{Plant}
use Rattle.plant_def.specs.Says.{plant_of}
use Rattle.solve_def.specs.declared.State.{State}
use Rattle.solve_def.specs.SolverNeeds.{AtHint}
use Rattle.solve_def.proofs.Theorem.{network_of}
use Rattle.solve_arcs_fill.specs.Plants.{LaidOf}
use Rattle.solve_phases.specs.Finishes.{Finishable}
use Rattle.solve_call.proofs.Solving.{full_right, counted, tieable, tie_margined, found_right}
use Rattle.solve_call.proofs.solve_at.Goals as goal
use Rattle.solve_call.proofs.solve_at.Goals.{Start}

abbrev first : Start → State
first st = st.args.state.now

-- What the phases begin from.
abbrev begun : (st : Start) (p : Plant) → LaidOf p st.args.arcs.now st.args.rows.now → AtHint (plant_of p).streams (first st)
    → Finishable st.args.arcs.now st.args.rows.now (first st)
begun st p w h = record {
  laying = record { streams = p.streams; n = p.count; network = network_of p w.accepted; laid = w.laid };
  at_hint = h;
}

pub finish-e-requires : goal.finish-e-requires
finish-e-requires c =
    (begun (goal.at.finish-e-requires c).Start c.requires.0 c.requires.1 c.requires.3, refl)

pub returns-then-e : goal.returns-then-e
returns-then-e c =
    λ p w e h.
    let got = c.finish-e.ensures (begun (goal.at.returns-then-e c).Start p w h) in (
      full_right p w.accepted (first (goal.at.returns-then-e c).Start) h _ got.0 _ c.if-e.true (rw e c.masked-marked.ensures),
      counted p w.accepted (first (goal.at.returns-then-e c).Start) h _ got.0 _ got.1,
    )

pub tie_all-requires : goal.tie_all-requires
tie_all-requires c =
    let p = c.requires.0 in
    let w = c.requires.1 in
    let h = c.requires.3 in
    let got = c.finish-e.ensures (begun (goal.at.tie_all-requires c).Start p w h) in
    let n = c.if-e.false in (
      tieable p w.accepted (first (goal.at.tie_all-requires c).Start) h _ got.0 n _ _ w.laid,
      tie_margined p w.accepted (first (goal.at.tie_all-requires c).Start) h _ got.0 n _ _ _ w.laid (got.2 n),
    )

pub returns : goal.returns
returns c =
    let n = c.if-e.false in
    λ p w e h.
    let got = c.finish-e.ensures (begun (goal.at.returns c).Start p w h) in
    let ties = c.tie_all.ensures (tieable p w.accepted (first (goal.at.returns c).Start) h _ got.0 n _ _ w.laid) in (
      found_right p w.accepted (first (goal.at.returns c).Start) h _ got.0 n _ _ _ ties (rw e c.masked-marked.ensures) got.1,
      counted p w.accepted (first (goal.at.returns c).Start) h _ got.0 _ got.1,
    )

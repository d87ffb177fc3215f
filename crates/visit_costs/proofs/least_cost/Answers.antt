-- What the phases end with is certified by its potentials.
use mathlib.Core.Path.{refl}
use mathlib.Core.List.{List}
use Prim.Native.Nat.{ℕ}
use Rattle.plant_def.specs.Says.{plant_of}
use Rattle.solve_def.specs.declared.State.{State}
use Rattle.solve_def.specs.SolverNeeds.{AtHint}
use Rattle.solve_def.proofs.Theorem.{network_of}
use Rattle.solve_arcs.specs.ArcNeeds.{Laid}
use Rattle.solve_arcs_fill.proofs.Plants.{no_arc}
use Rattle.solve_phases.specs.Finishes.{Finishable}
use Rattle.visit_costs.proofs.Ended.{never_full, amounts, all_held, least_found}
use Rattle.visit_costs.proofs.least_cost.Goals as goal
use Rattle.visit_costs.proofs.least_cost.Goals.{Start}

pub lay-requires : goal.lay-requires
lay-requires c =
    (network_of c.args.p c.requires.0, refl, no_arc, refl)

pub group-labels-requires : goal.group-labels-requires
group-labels-requires c =
    (c.args.p, record { accepted = c.requires.0; laid = c.lay.ensures })

pub start-requires : goal.start-requires
start-requires c =
    let p = c.args.p in (
      (
        p,
        record { accepted = c.requires.0; laid = c.lay.ensures },
        refl,
        c.group-labels.ensures p (record { accepted = c.requires.0; laid = c.lay.ensures }),
      ),
      refl,
    )

-- What the phases begin from.
abbrev able : (st : Start) {ls rs : List ℕ} {begin : State} → Laid st.args.p.streams st.args.p.count ls rs → AtHint (plant_of st.args.p).streams begin
    → Finishable ls rs begin
able st l h = record {
  laying = record { streams = st.args.p.streams; n = st.args.p.count; network = network_of st.args.p st.requires.0; laid = l };
  at_hint = h;
}

pub finish-e-requires : goal.finish-e-requires
finish-e-requires c =
    let p = c.args.p in (
      able (goal.at.finish-e-requires c).Start c.lay.ensures (c.start.ensures p (record { accepted = c.requires.0; laid = c.lay.ensures })
          (c.group-labels.ensures p (record { accepted = c.requires.0; laid = c.lay.ensures }))),
      refl,
    )

pub returns-then-e : goal.returns-then-e
returns-then-e c =
    let p = c.args.p in
    let h = c.start.ensures p (record { accepted = c.requires.0; laid = c.lay.ensures })
    (c.group-labels.ensures p (record { accepted = c.requires.0; laid = c.lay.ensures })) in
    let got = c.finish-e.ensures (able (goal.at.returns-then-e c).Start c.lay.ensures h) in
    never_full p c.requires.0 _ h _ got.0 c.requires.1 c.if-e.true

pub cost_held-requires : goal.cost_held-requires
cost_held-requires c =
    let p = c.args.p in
    let h = c.start.ensures p (record { accepted = c.requires.0; laid = c.lay.ensures })
    (c.group-labels.ensures p (record { accepted = c.requires.0; laid = c.lay.ensures })) in
    let got = c.finish-e.ensures (able (goal.at.cost_held-requires c).Start c.lay.ensures h) in (
      (p, record { accepted = c.requires.0; laid = c.lay.ensures }),
      amounts p c.requires.0 _ h _ got.0 c.if-e.false,
      all_held p c.requires.0 _ h _ got.0 c.if-e.false,
    )

pub returns : goal.returns
returns c =
    let p = c.args.p in
    let h = c.start.ensures p (record { accepted = c.requires.0; laid = c.lay.ensures })
    (c.group-labels.ensures p (record { accepted = c.requires.0; laid = c.lay.ensures })) in
    let got = c.finish-e.ensures (able (goal.at.returns c).Start c.lay.ensures h) in
    least_found p c.requires.0 _ h _ got.0 c.if-e.false c.cost_held.result
    (c.cost_held.ensures p (record { accepted = c.requires.0; laid = c.lay.ensures }))

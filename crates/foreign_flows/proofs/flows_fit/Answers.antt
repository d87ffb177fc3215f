-- After i turns the first i flows fit.
use native.Mathlib.Omega.{arith}
use Prim.Native.Nat.{◌<◌}
use borrow.Author.Count.{below_more}
use borrow.Author.Rules.{rules}
use Rattle.foreign_flows.proofs.Checking as C
use Rattle.plant_def.proofs.Arrayed.{stream_within}
use Rattle.foreign_flows.proofs.flows_fit.Goals as goal
use Rattle.foreign_flows.proofs.flows_fit.Goals.{In-loop-i}

-- The stream is listed.
listed : (c : In-loop-i) → c.loop-i.i < c.args.p.count
listed c = omega arith

pub difference_at-requires : goal.difference_at-requires
difference_at-requires c =
    let e = C.ends_fit c.args.p c.requires.0 c.args.flows c.args.numbers.now c.requires.2 c.loop-i.i (listed (goal.at.difference_at-requires c).In-loop-i) in
    record { from_in_bounds = e.0; from_bound = e.1 }

pub flow_fits-requires : goal.flow_fits-requires
flow_fits-requires c =
    let l = listed (goal.at.flow_fits-requires c).In-loop-i in
    let w = stream_within c.args.p c.requires.0 c.loop-i.i l in
    let s = c.requires.1 c.loop-i.i (omega (arith, l, c.requires.0.within.few_streams)) in
    search rules

pub returns-then-not-flow_fits : goal.returns-then-not-flow_fits
returns-then-not-flow_fits c =
    C.flow_fails c.args.p c.requires.0 c.args.flows c.args.numbers.now c.loop-i.i (listed (goal.at.returns-then-not-flow_fits c).In-loop-i) (search rules)

pub loop-i-preserved : goal.loop-i-preserved
loop-i-preserved c = below_more _ _ c.loop-i.invariant (search rules)

pub returns : goal.returns
returns c = C.no_flow_fails c.args.p c.requires.0 c.args.flows c.args.numbers.now (search rules)

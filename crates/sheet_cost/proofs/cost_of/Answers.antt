-- Each turn adds one stream.
use borrow.Author.Rules.{rules}
use native.Mathlib.Omega.{arith}
use mathlib.Core.Path.{◌≡◌, ap, ◌∙◌}
use lib.IntN.{ℤ, pos}
use lib.ListN.{get_or}
use mir.Syntax.{w64}
use mir.Val.{SFits, to_z, of_z}
use mir.Facts.{to_z-of_z}
use Rattle.plant_def.specs.Plants.{no_stream}
use Rattle.flow_def.specs.Flows.{amount_at}
use Rattle.sheet_def.specs.Totals.{capped}
use Rattle.sheet_def.specs.Calls.{stream_cost}
use Rattle.sheet_cost.proofs.Costing.{summed_none, next_fits, summed_more, summed_all}
use Rattle.sheet_cost.proofs.cost_of.Goals as goal
use Rattle.sheet_cost.proofs.cost_of.Goals.{After-stream_cost-arg-in-loop-i-1, After-stream_cost}

pub loop-i-init : goal.loop-i-init
loop-i-init c = (record { accepted = c.requires.0; amounts = search rules; small = c.requires.1 }, summed_none c.args.p c.args.flows)

-- The flow that is read.
flow_is : (c : After-stream_cost-arg-in-loop-i-1) → let xs = c.args.flows in
    let i = c.loop-i.i in
    to_z w64 (of_z w64 (amount_at xs i)) ≡ amount_at xs i
flow_is c =
    let f : SFits w64 (get_or c.args.flows c.loop-i.i (pos 0)) = search rules in
    to_z-of_z f

pub stream_cost-requires : goal.stream_cost-requires
stream_cost-requires c =
    let v = c.loop-i.invariant in
    rw (flow_is c) (next_fits v.0 v.1 (omega arith))

-- What it costs.
costs : (c : After-stream_cost)
    → c.stream_cost.result ≡ capped (stream_cost (get_or c.args.p.streams c.loop-i.i no_stream) (amount_at c.args.flows c.loop-i.i))
costs c =
    c.stream_cost.ensures ∙ ap (λ (x : ℤ). capped (stream_cost (get_or c.args.p.streams c.loop-i.i no_stream) x)) (flow_is c.before)

pub loop-i-preserved : goal.loop-i-preserved
loop-i-preserved c =
    let v = c.loop-i.invariant in
    (v.0, summed_more v.0 v.1 (omega arith) _ _ (costs (goal.at.loop-i-preserved c).After-stream_cost) c.capped_sum-sum.ensures)

pub returns : goal.returns
returns c = summed_all c.loop-i.invariant.0 c.loop-i.invariant.1 (omega arith)

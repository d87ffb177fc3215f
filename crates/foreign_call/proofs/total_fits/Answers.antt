-- Degrees, then the cost, then the verdict by the cost as it is written.
use mathlib.Core.Path.{refl}
use Prim.Native.Nat.{ℕ}
use native.Mathlib.Omega.{arith}
use lib.ListN.{take}
use Rattle.plant_def.specs.Says.{plant_of}
use Rattle.flow_def.specs.Flows.{cost}
use Rattle.foreign_call.proofs.Ruling as R
use Rattle.foreign_call.proofs.total_fits.Goals as goal
use Rattle.foreign_call.proofs.total_fits.Goals.{Start}

-- What the flows cost.
abbrev costing : Start → ℕ
costing st = cost (plant_of st.args.p).streams (take st.args.p.count st.args.flows)

pub degrees_of-degrees-requires : goal.degrees_of-degrees-requires
degrees_of-degrees-requires c = (c.args.p, c.requires.0, refl, c.requires.1)

pub returns-then-total-degrees : goal.returns-then-total-degrees
returns-then-total-degrees c =
    R.other_degrees (plant_of c.args.p) (costing (goal.at.returns-then-total-degrees c).Start) c.args.total c.degrees_of-degrees.result (c.degrees_of-degrees.ensures.0 c.args.p c.requires.0 refl c.requires.1) c.if-total-degrees.true

pub cost_of-cost-requires : goal.cost_of-cost-requires
cost_of-cost-requires c = (c.requires.0.accepted, c.requires.3)

pub returns-then-total-cost : goal.returns-then-total-cost
returns-then-total-cost c =
    R.other_cost (plant_of c.args.p) (costing (goal.at.returns-then-total-cost c).Start) c.args.total c.degrees_of-degrees.result (c.degrees_of-degrees.ensures.0 c.args.p c.requires.0 refl c.requires.1) c.if-total-degrees.false
    c.cost_of-cost.result c.cost_of-cost.ensures c.if-total-cost.true

pub adjusted_weights-weights-requires : goal.adjusted_weights-weights-requires
adjusted_weights-weights-requires c = (c.requires.0.accepted, c.requires.2)

pub returns : goal.returns
returns c =
    R.by_verdict (plant_of c.args.p) (costing (goal.at.returns c).Start) c.args.total c.degrees_of-degrees.result (c.degrees_of-degrees.ensures.0 c.args.p c.requires.0 refl c.requires.1)
    c.if-total-degrees.false
    c.cost_of-cost.result c.cost_of-cost.ensures c.if-total-cost.false
    c.adjusted_weights-weights.result c.verdict-verdict.result c.adjusted_weights-weights.ensures (omega arith) c.verdict-verdict.ensures

-- After k turns the costs of the first k streams are found.
use mathlib.Core.Path.{◌∙◌, subst}
use Prim.Native.Nat.{ℕ}
use native.Mathlib.Omega.{arith}
use lib.ListN.{length-set, length-replicate}
use borrow.Author.Count.{below_none}
use Rattle.plant_def.specs.Limits.{max_streams}
use Rattle.plant_def.specs.Plants.{Plant}
use Rattle.plant_def.specs.Says.{plant_of}
use Rattle.visit_def.specs.Visits.{LeastCost}
use Rattle.visit_costs.proofs.Gone.{gone_feasible, one_more, none_more}
use Rattle.visit_costs.proofs.costs_without.Goals as goal
use Rattle.visit_costs.proofs.costs_without.Goals.{then-listed-k, else-listed-k}

pub loop-k-init : goal.loop-k-init
loop-k-init c = (length-replicate {A = ℕ} max_streams 0, below_none _)

pub bounds-listed-k : goal.bounds-listed-k
bounds-listed-k c = omega (arith, c.loop-k-test.true, c.requires.0.within.few_streams)

pub least_cost-requires : goal.least_cost-requires
least_cost-requires c =
    (c.unmeter_one.ensures.0, gone_feasible (plant_of c.args.p) _ c.loop-k.k c.unmeter_one.ensures.1 c.requires.1)

pub bounds-costs-k : goal.bounds-costs-k
bounds-costs-k c = omega (arith, c.loop-k-test.true, c.requires.0.within.few_streams)

pub loop-k-preserved : goal.loop-k-preserved
loop-k-preserved c =
    let p = plant_of c.args.p in
    let at = c.loop-k in
    elim c.if-listed-k.branch [
      | then-listed-k w ↦
          rw w.costs-is (
            length-set at.costs at.k w.least_cost.result ∙ at.invariant.0,
            one_more p c.args.listed at.costs at.k w.least_cost.result
                (omega (arith, c.loop-k-test.true, c.requires.0.within.few_streams, at.invariant.0)) at.invariant.1
                (λ t. subst (λ (q : Plant). LeastCost q w.least_cost.result) w.unmeter_one.ensures.1 w.least_cost.ensures),
          )
      | else-listed-k w ↦ rw w.costs-is (at.invariant.0, none_more p c.args.listed at.costs at.k at.invariant.1 w.if-listed-k.false)
    ]

pub returns : goal.returns
returns c = λ j l t. c.loop-k.invariant.1 j (omega (arith, c.loop-k-test.false)) t

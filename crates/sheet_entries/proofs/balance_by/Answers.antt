-- The parts make up the balance of the cheapest flow.
use Rattle.sheet_def.proofs.Opening.{held_amounts}
use Rattle.sheet_entries.proofs.Balanced.{balanced_so}
use Rattle.sheet_entries.proofs.balance_by.Goals as goal

pub cost_held-cost-requires : goal.cost_held-cost-requires
cost_held-cost-requires c =
    let o = c.requires in
    ((o.0, o.1), held_amounts o.0 c.args.solved o.4, o.4.long)

pub degrees_of-degrees-requires : goal.degrees_of-degrees-requires
degrees_of-degrees-requires c = let o = c.requires in (o.0, o.1, o.2, o.3.grouped)

pub enter-entered-requires : goal.enter-entered-requires
enter-entered-requires c =
    let o = c.requires in
    ((o.0, o.1, o.3), held_amounts o.0 c.args.solved o.4, o.4.long)

pub verdict-verdict-requires : goal.verdict-verdict-requires
verdict-verdict-requires c = c.degrees_of-degrees.ensures.1

pub returns : goal.returns
returns c =
    λ p laid same bridge solution.
    let e = c.enter-entered.ensures.0 p laid bridge in
    balanced_so p laid.accepted c.args.solved solution c.enter-entered.result.streams c.cost_held-cost.result
    c.degrees_of-degrees.result c.enter-entered.result.weights c.verdict-verdict.result
    e.0 (c.cost_held-cost.ensures p laid) (c.degrees_of-degrees.ensures.0 p laid same bridge.grouped) e.1 c.enter-entered.ensures.1 c.verdict-verdict.ensures

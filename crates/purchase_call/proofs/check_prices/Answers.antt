-- By the two tests in their order.
use mathlib.Core.Path.{◌≡◌, sym, ◌∙◌}
use mathlib.Core.Bool.{Bool, true, false}
use Rattle.num_bytes.specs.Choice.{pick}
use Rattle.plant_def.specs.Says.{plant_of}
use Rattle.purchase_def.specs.Purchases.{prices_fault}
use Rattle.purchase_call.proofs.Prices.{not_one_each, one_each}
use Rattle.purchase_call.proofs.check_prices.Goals as goal
use Rattle.purchase_call.proofs.check_prices.Goals.{After-some_unfair}

pub returns-then-prices-unmetered_in : goal.returns-then-prices-unmetered_in
returns-then-prices-unmetered_in c =
    not_one_each c.args.p c.requires c.args.prices.now _ c.unmetered_in.ensures c.if-prices-unmetered_in.true

-- There is one price for each: the fault is by whether one is unfair.
by_fairness : (c : After-some_unfair) (b : Bool) → c.some_unfair.result ≡ b
    → pick b 21 0 ≡ prices_fault (plant_of c.args.p) c.args.prices.now
by_fairness c b e =
    one_each c.args.p c.requires c.args.prices.now _ c.unmetered_in.ensures c.if-prices-unmetered_in.false
    b (sym e ∙ c.some_unfair.ensures)

pub returns-then-some_unfair : goal.returns-then-some_unfair
returns-then-some_unfair c = by_fairness (goal.at.returns-then-some_unfair c).After-some_unfair true c.if-some_unfair.true

pub returns : goal.returns
returns c = by_fairness (goal.at.returns c).After-some_unfair false c.if-some_unfair.false

-- `solve_forest::span` meets its contract: each pass keeps what is asked of a forest, and what is grown from the labels can be
-- routed along.
use Rattle.std.proofs.Common.{arith, rules}
use Rattle.solve_arcs.specs.ArcNeeds.{Laying}
use Rattle.solve_forest.specs.Forests.{Routable}
use Rattle.solve_forest.proofs.Spanning.{spanning_short, listed_first}
use Rattle.solve_forest.proofs.span.Goals as goal
use Rattle.solve_forest.proofs.span.Goals.{At-loop}

pub loop-init : goal.loop-init
loop-init c = (search rules, λ w k l. absurd (omega arith), c.list_unmetered-n.ensures)

pub loop-preserved : goal.loop-preserved
loop-preserved c =
    let grown = c.pass.ensures in
    let inv = c.loop.invariant in
    (grown.0, grown.1 _ (listed_first inv.2) inv.1, inv.2)

pub pass-requires : goal.pass-requires
pass-requires c = let inv = c.loop.invariant in ((_, c.requires, listed_first inv.2), inv.0)

-- What is grown so far can be routed along.
grown : (c : At-loop) (w : Laying c.args.arcs.now c.args.rows.now)
    → Routable w.streams w.n c.loop.forest
grown c w =
    let s = c.loop.invariant.0 in
    record { vias = s.vias; intos = s.intos; short = spanning_short s; listed = c.loop.invariant.1 w }

pub returns-then-all-forest : goal.returns-then-all-forest
returns-then-all-forest c = grown (goal.at.returns-then-all-forest c).At-loop

pub returns-after-loop : goal.returns-after-loop
returns-after-loop c = grown (goal.at.returns-after-loop c).At-loop

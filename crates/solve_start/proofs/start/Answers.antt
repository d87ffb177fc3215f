-- `solve_start::start` meets its contract: the potentials are by label, and what is routed leaves the metered amounts settled.
use mathlib.Core.Path.{◌≡◌, ap, subst, ◌∙◌}
use mathlib.Core.List.{List}
use Prim.Native.Nat.{ℕ}
use native.Mathlib.Omega.{arith}
use lib.ListN.{replicate}
use Rattle.plant_def.specs.declared.Plant.{Plant}
use Rattle.plant_def.specs.Limits.{max_streams}
use Rattle.plant_def.specs.Says.{plant_of}
use Rattle.flow_def.specs.Chains.{unmetered_only}
use Rattle.flow_def.specs.Labels.{labels_of}
use Rattle.flow_def.specs.Calls.{Grouped}
use Rattle.flow_def.proofs.Grouping.{labels_are}
use Rattle.newton_descend.specs.Levels.{Level}
use Rattle.solve_def.specs.Sizes.{flow_shift, potential_shift, potential_spread}
use Rattle.solve_def.specs.Model.{settled_to}
use Rattle.solve_def.proofs.Booking.{nets_long}
use Rattle.solve_def.proofs.Theorem.{network_of}
use Rattle.solve_arcs.specs.ArcNeeds.{Laying}
use Rattle.solve_arcs_fill.specs.Plants.{LaidOf}
use Rattle.solve_forest.specs.Routes.{Routing}
use Rattle.solve_forest.proofs.Routes.{routes_none, routes_amounts}
use Rattle.solve_start.proofs.Factored.{labels_of_lem, placed_of, level_ready, level_routes, routed_start}
use Rattle.solve_start.proofs.start.Goals as goal
use Rattle.solve_start.proofs.start.Goals.{After-span, Start}

pub potentials_of-state-requires : goal.potentials_of-state-requires
potentials_of-state-requires c =
    let o = c.requires.0 in
    let a = o.1.accepted in
    let e = labels_are o.0 a unmetered_only _ o.3 in
    (rw e (labels_of_lem o.0 a), rw (← o.2, e) (placed_of o.0 a o.1.laid), omega arith)

-- Streams that the arcs and the rows of a plant that was laid are of.
abbrev laying : (arcs rows : List ℕ) (p : Plant) → LaidOf p arcs rows → Laying arcs rows
laying arcs rows p w = record { streams = p.streams; n = p.count; network = network_of p w.accepted; laid = w.laid }

-- The potentials are by label.
levels : (arcs rows labels : List ℕ) (p : Plant) → LaidOf p arcs rows → (ps : List ℕ) → Grouped p labels → Level labels potential_shift potential_spread ps
    → Level (labels_of unmetered_only (plant_of p)) potential_shift potential_spread ps
levels arcs rows labels p w ps g v =
    subst (λ (ls : List ℕ). Level ls potential_shift potential_spread ps) (labels_are p w.accepted unmetered_only _ g) v

-- Settled from amounts that are 0.
from_none : (flows : List ℕ) (p : Plant) → flows ≡ replicate max_streams flow_shift → (ps xs : List ℕ)
    → xs ≡ settled_to (plant_of p).streams ps flows p.count
    → xs ≡ settled_to (plant_of p).streams ps (replicate max_streams flow_shift) p.count
from_none flows p z ps xs e = e ∙ ap (λ (ys : List ℕ). settled_to (plant_of p).streams ps ys p.count) z

-- What is routed, and along what.
abbrev routing : (c : After-span) (p : Plant) (w : LaidOf p c.args.arcs.now c.args.rows.now)
    → Grouped p c.args.labels → (xs : List ℕ)
    → xs ≡ settled_to (plant_of p).streams c.potentials_of-state.result c.args.state.now.flows p.count
    → Routing c.args.arcs.now c.span.result xs
routing c p w g xs e =
    record {
      rows = c.args.rows.now;
      laying = laying c.args.arcs.now c.args.rows.now p w;
      forest = c.span.ensures (laying c.args.arcs.now c.args.rows.now p w);
      routes = rw (from_none _ p c.requires.1 _ xs e) (level_routes p w.accepted (levels _ _ _ p w _ g c.potentials_of-state.ensures));
    }

pub settle_flows-requires : goal.settle_flows-requires
settle_flows-requires c =
    let o = c.requires.0 in (
      laying c.args.arcs.now c.args.rows.now o.0 o.1,
      (level_ready o.0 o.1.accepted (levels _ _ _ o.0 o.1 _ o.3 c.potentials_of-state.ensures)).start.capped,
      rw c.requires.1 (routes_none {ss = (plant_of o.0).streams}).long,
    )

pub nets_of-state-requires : goal.nets_of-state-requires
nets_of-state-requires c =
    let o = c.requires.0 in (
      (_, laying c.args.arcs.now c.args.rows.now o.0 o.1),
      rw (from_none _ o.0 c.requires.1 _ _ (c.settle_flows.ensures (laying c.args.arcs.now c.args.rows.now o.0 o.1)))
          (routes_amounts (level_routes o.0 o.1.accepted (levels _ _ _ o.0 o.1 _ o.3 c.potentials_of-state.ensures))),
    )

pub span-requires : goal.span-requires
span-requires c = laying c.args.arcs.now c.args.rows.now c.requires.0.0 c.requires.0.1

pub route-requires : goal.route-requires
route-requires c =
    let o = c.requires.0 in
    let l = laying c.args.arcs.now c.args.rows.now o.0 o.1 in
    (routing (goal.at.route-requires c).After-span o.0 o.1 o.3 _ (c.settle_flows.ensures l), rw (c.nets_of-state.ensures _ l) (nets_long _ _ o.0.count))

pub nets_of-state-requires-2 : goal.nets_of-state-requires-2
nets_of-state-requires-2 c =
    let o = c.requires.0 in
    let l = laying c.args.arcs.now c.args.rows.now o.0 o.1 in
    ((_, l), routes_amounts (c.route.ensures (routing (goal.at.nets_of-state-requires-2 c).After-span o.0 o.1 o.3 _ (c.settle_flows.ensures l))).0)

pub returns : goal.returns
returns c =
    λ p w g.
    let e = c.settle_flows.ensures (laying c.args.arcs.now c.args.rows.now p w) in
    let o = c.route.ensures (routing (goal.at.returns c).After-span p w g _ e) in
    rw (c.nets_of-state-2.ensures _ (laying c.args.arcs.now c.args.rows.now p w)) (routed_start p w.accepted (levels _ _ _ p w _ g c.potentials_of-state.ensures) (from_none _ p c.requires.1 _ _ e) o.0 o.1)

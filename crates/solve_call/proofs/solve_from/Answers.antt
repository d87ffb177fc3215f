-- `solve_call::solve_from` meets its contract: amounts are settled at the hint.
use mathlib.Core.Path.{refl}
use Prim.Native.Nat.{◌*◌}
use native.Mathlib.Omega.{arith}
use lib.ListN.{get_or-replicate}
use Rattle.plant_def.specs.Limits.{max_streams}
use Rattle.plant_def.specs.Says.{plant_of}
use Rattle.solve_def.specs.SolverNeeds.{AtHint}
use Rattle.solve_def.proofs.Layouts.{hinted_ready}
use Rattle.solve_def.proofs.Theorem.{network_of}
use Rattle.solve_arcs.specs.Cells.{arc_cells}
use Rattle.solve_call.proofs.solve_from.Goals as goal
use Rattle.solve_call.proofs.solve_from.Goals.{After-settle-state}

pub lay-requires : goal.lay-requires
lay-requires c =
    (network_of c.args.p c.requires.0, refl, λ u l. get_or-replicate arc_cells u (2 * max_streams) 0 (omega arith), refl)

pub settle-state-requires : goal.settle-state-requires
settle-state-requires c =
    let p = c.args.p in
    let w = network_of p c.requires.0 in
    record {
      laying = record { streams = p.streams; n = p.count; network = w; laid = c.lay.ensures };
      ready = hinted_ready p.streams p.count w c.args.h c.requires.1;
    }

-- The settled amounts are those of the hint.
at_hint : (c : After-settle-state) → AtHint (plant_of c.args.p).streams c.settle-state.result
at_hint c =
    let p = c.args.p in
    record {
      hint = c.args.h;
      hinted = c.requires.1;
      is = c.settle-state.ensures (record { streams = p.streams; n = p.count; network = network_of p c.requires.0; laid = c.lay.ensures });
    }

pub solve_at-requires : goal.solve_at-requires
solve_at-requires c =
    (c.args.p, record { accepted = c.requires.0; laid = c.lay.ensures }, refl, at_hint (goal.at.solve_at-requires c).After-settle-state)

pub returns : goal.returns
returns c =
    let r = c.solve_at.ensures c.args.p (record { accepted = c.requires.0; laid = c.lay.ensures }) refl (at_hint (goal.at.returns c).After-settle-state) in
    (r.0, r.1.few)

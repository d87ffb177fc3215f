-- `solve_settle::settle_flows` meets its contract: the first i streams are settled.
use mathlib.Core.Path.{◌≡◌, sym}
use Prim.Native.Nat.{◌<◌}
use native.Mathlib.Omega.{arith}
use Rattle.plant_def.specs.Limits.{places}
use Rattle.solve_def.proofs.Turns.{settle_none}
use Rattle.solve_arcs.specs.Cells.{count_of}
use Rattle.solve_arcs.proofs.Rowing.{row_at, start_in, end_in}
use Rattle.solve_settle.proofs.Rowing.{pull_is, turned_row}
use Rattle.solve_settle.proofs.settle_flows.Goals as goal
use Rattle.solve_settle.proofs.settle_flows.Goals.{After-end_at-u, After-end_at-v, In-loop-i}

below : (c : In-loop-i) → c.loop-i.i < count_of c.args.arcs.now
below c = rw (← c.count_of-n.ensures) c.loop-i-test.true

u_in : (c : After-end_at-u) → c.end_at-u.result < places
u_in c = rw c.end_at-u.ensures (start_in _ _ c.requires.0 _ (below c.before))

v_in : (c : After-end_at-v) → c.end_at-v.result < places
v_in c = rw c.end_at-v.ensures (end_in _ _ c.requires.0 _ (below c.before.before))

pub loop-i-init : goal.loop-i-init
loop-i-init c = (λ w. sym (settle_none _ _ _), omega (arith, c.count_of-n.ensures, c.requires.0.laid.along.linked.few))

pub offset_bounds-potentials-u : goal.offset_bounds-potentials-u
offset_bounds-potentials-u c = omega (arith, u_in (goal.at.offset_bounds-potentials-u c).After-end_at-u)

pub bounds-potentials-u : goal.bounds-potentials-u
bounds-potentials-u c = u_in (goal.at.bounds-potentials-u c).After-end_at-u

pub offset_bounds-potentials-v : goal.offset_bounds-potentials-v
offset_bounds-potentials-v c = omega (arith, v_in (goal.at.offset_bounds-potentials-v c).After-end_at-v)

pub bounds-potentials-v : goal.bounds-potentials-v
bounds-potentials-v c = v_in (goal.at.bounds-potentials-v c).After-end_at-v

pub amount_at-x-requires : goal.amount_at-x-requires
amount_at-x-requires c =
    (row_at _ _ c.requires.0 _ (below (goal.at.amount_at-x-requires c).In-loop-i), c.requires.1 _ (u_in (goal.at.amount_at-x-requires c).After-end_at-u), c.requires.1 _ (v_in (goal.at.amount_at-x-requires c).After-end_at-v))

pub loop-i-preserved : goal.loop-i-preserved
loop-i-preserved c =
    let at = c.loop-i in (
      λ w. turned_row _ _ w _ (below (goal.at.loop-i-preserved c).In-loop-i) _ _ _ (at.invariant.0 w) _ _
          (λ h. rw (← c.end_at-u.ensures, ← c.end_at-v.ensures) (c.amount_at-x.ensures _ (pull_is _ _ w _ (below (goal.at.loop-i-preserved c).In-loop-i)) h)) c.settled_or.ensures,
      at.invariant.1,
    )

pub returns : goal.returns
returns c = λ w.
    let e : c.loop-i.i ≡ w.n = omega (arith, c.count_of-n.ensures, w.laid.along.counted, c.loop-i-test.false) in
    rw e at (c.loop-i.invariant.0 w)

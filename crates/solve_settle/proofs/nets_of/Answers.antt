-- `solve_settle::nets_of` meets its contract: the first i streams are booked.
use mathlib.Core.Path.{◌≡◌, sym, ◌∙◌}
use Prim.Native.Nat.{◌<◌}
use native.Mathlib.Omega.{arith}
use lib.ListN.{take}
use Rattle.solve_def.specs.Sizes.{net_room}
use Rattle.solve_def.proofs.Booking.{nets_around, around_more}
use Rattle.solve_def.proofs.Streams.{stream_is}
use Rattle.solve_def.proofs.Turns.{nets_none}
use Rattle.solve_arcs.specs.Cells.{count_of}
use Rattle.plant_def.specs.Limits.{max_streams}
use Rattle.solve_arcs.proofs.Rowing.{start_in, end_in}
use Rattle.solve_settle.proofs.Rowing.{booked_row}
use Rattle.solve_settle.proofs.nets_of.Goals as goal
use Rattle.solve_settle.proofs.nets_of.Goals.{In-loop-i}

below : (c : In-loop-i) → c.loop-i.i < count_of c.args.arcs.now
below c = rw (← c.count_of-n.ensures) c.loop-i-test.true

pub loop-i-init : goal.loop-i-init
loop-i-init c = (λ rs w. sym (nets_none _ _), omega (arith, c.count_of-n.ensures, c.requires.0.1.laid.along.linked.few))

pub book-requires : goal.book-requires
book-requires c =
    let at = c.loop-i in
    let w = c.requires.0.1 in
    let net = w.network in
    let low : at.i < max_streams = omega arith in
    let n : at.i < w.n = rw w.laid.along.counted at (below (goal.at.book-requires c).In-loop-i) in (
      rw c.end_at-u.ensures (start_in _ _ w _ (below (goal.at.book-requires c).In-loop-i)),
      rw c.end_at-v.ensures (end_in _ _ w _ (below (goal.at.book-requires c).In-loop-i)),
      c.requires.1 _ low,
      rw (at.invariant.0 _ w)
          (around_more
          (nets_around (take w.n w.streams) c.args.flows.now at.i (omega arith)
          (λ k h. rw (stream_is w.streams w.n k (omega arith)) ((net.within.each k (omega arith)).from_in, (net.within.each k (omega arith)).to_in))
          (λ k h. c.requires.1 k (omega arith))) net_room (omega arith)),
    )

pub loop-i-preserved : goal.loop-i-preserved
loop-i-preserved c =
    let at = c.loop-i in
    (λ rs w. c.book.ensures ∙ rw (c.end_at-u.ensures, c.end_at-v.ensures) (booked_row _ rs w _ (below (goal.at.loop-i-preserved c).In-loop-i) _ _ (at.invariant.0 rs w)), at.invariant.1)

pub returns : goal.returns
returns c = λ rs w.
    let e : c.loop-i.i ≡ w.n = omega (arith, c.count_of-n.ensures, w.laid.along.counted, c.loop-i-test.false) in
    rw e at (c.loop-i.invariant.0 rs w)

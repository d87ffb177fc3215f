-- `newton_laplacian::gather` meets its contract: no more streams are gathered than were passed, and their groups are among the places.
use Prim.Native.Nat.{◌<◌}
use native.Mathlib.Omega.{arith}
use Rattle.solve_arcs.specs.Cells.{count_of}
use Rattle.solve_arcs.proofs.Rowing.{low_in}
use Rattle.newton_laplacian.proofs.gather.Goals as goal
use Rattle.newton_laplacian.proofs.gather.Goals.{In-loop-i}

used : (c : In-loop-i) → c.loop-i.i < count_of c.args.arcs.now
used c = rw (← c.count_of-n.ensures) c.loop-i-test.true

pub loop-i-init : goal.loop-i-init
loop-i-init c = (omega arith, c.requires.1, λ n p e. e)

pub take_in-k-requires : goal.take_in-k-requires
take_in-k-requires c =
    let at = c.loop-i in
    (at.invariant.1, omega (arith, at.invariant.0, low_in _ _ c.requires.0.1.laying _ (used (goal.at.take_in-k-requires c).In-loop-i)), c.requires.0, used (goal.at.take_in-k-requires c).In-loop-i)

pub loop-i-preserved : goal.loop-i-preserved
loop-i-preserved c =
    let at = c.loop-i in
    let o = c.take_in-k.ensures in
    (omega (arith, at.invariant.0, o.long.1), o.long.0, λ n p e. o.still_ends n p (at.invariant.2 n p e))

pub returns : goal.returns
returns c =
    let at = c.loop-i in
    let w = c.requires.0.1.laying in
    let n = c.count_of-n.ensures in
    record {
      meters_len = (at.invariant.1.1, omega (arith, n, w.laid.along.counted, w.network.within.few_streams));
      still_ends = at.invariant.2;
    }

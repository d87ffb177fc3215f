-- `solve_forest::pass` meets its contract: each stream keeps what is asked of a forest.
use Rattle.std.proofs.Common.{◌<◌, get_or, arith}
use Rattle.solve_arcs.specs.Cells.{count_of}
use Rattle.solve_arcs.proofs.Rowing.{start_in, end_in}
use Rattle.solve_forest.proofs.pass.Goals as goal
use Rattle.solve_forest.proofs.pass.Goals.{In-loop-i}

used : (c : In-loop-i) → get_or c.args.listed.now c.loop-i.i-index 0 < count_of c.args.arcs.now
used c = let o = c.requires.0 in omega (arith, (o.2 o.1 c.loop-i.i-index (omega arith)).0, o.1.laid.along.counted)

-- Its number is below 96.
low : (c : In-loop-i) → get_or c.args.listed.now c.loop-i.i-index 0 < 96
low c = omega (arith, used c, c.requires.0.1.laid.along.linked.few)

pub loop-i-init : goal.loop-i-init
loop-i-init c = (c.requires.1, λ rs f h. h)

pub end_at-u-requires : goal.end_at-u-requires
end_at-u-requires c = omega (arith, low (goal.at.end_at-u-requires c).In-loop-i)

pub end_at-v-requires : goal.end_at-v-requires
end_at-v-requires c = omega (arith, low (goal.at.end_at-v-requires c).In-loop-i)

pub along-requires : goal.along-requires
along-requires c =
    let w = c.requires.0.1 in
    let l = used (goal.at.along-requires c).In-loop-i in
    (c.loop-i.invariant.0, rw c.end_at-u.ensures (start_in _ _ w _ l), rw c.end_at-v.ensures (end_in _ _ w _ l))

pub loop-i-preserved : goal.loop-i-preserved
loop-i-preserved c = (
  c.along.ensures.0,
  λ rs f h w. c.along.ensures.1 w.streams w.n (f w c.loop-i.i-index (omega arith)) (c.loop-i.invariant.1 rs f h w),
)

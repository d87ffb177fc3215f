-- `solve_forest::route` meets its contract: each stream routed keeps the lengths and the room, and the metered amounts.
use Rattle.std.proofs.Common.{◌-◌, ◌<◌, get_or, refl, arith}
use Rattle.plant_def.specs.Limits.{places, max_streams}
use Rattle.solve_arcs.specs.Cells.{count_of}
use Rattle.solve_arcs.proofs.Rowing.{low_in, start_in, end_in}
use Rattle.solve_forest.specs.Forests.{Unmetered}
use Rattle.solve_forest.specs.Routes.{Routing}
use Rattle.solve_forest.proofs.Routes.{routes_set, kept_set}
use Rattle.solve_forest.proofs.route.Goals as goal
use Rattle.solve_forest.proofs.route.Goals.{In-loop-k}

pub loop-k-init : goal.loop-k-init
loop-k-init c = (c.requires.1, λ w. (w.routes, record { each = λ k l m. refl }))

short : (c : In-loop-k) → c.loop-k.k - 1 < places
short c = omega (arith, c.requires.0.forest.short)

-- The stream is in use, and unmetered.
listed : (c : In-loop-k) (w : Routing c.args.arcs.now c.args.f c.args.flows.now)
    → Unmetered w.laying.streams w.laying.n (get_or c.args.f.via (c.loop-k.k - 1) 0)
listed c w = w.forest.listed _ (omega arith)

used : (c : In-loop-k) → get_or c.args.f.via (c.loop-k.k - 1) 0 < count_of c.args.arcs.now
used c = let w = c.requires.0 in rw w.laying.laid.along.counted (listed c w).0

index : (c : In-loop-k) → get_or c.args.f.via (c.loop-k.k - 1) 0 < max_streams
index c = low_in _ _ c.requires.0.laying _ (used c)

pub bounds-f-k : goal.bounds-f-k
bounds-f-k c = short c

pub overflow_cast-i : goal.overflow_cast-i
overflow_cast-i c = omega (arith, index (goal.at.overflow_cast-i c).In-loop-k)

pub bounds-f-k-in-loop-k : goal.bounds-f-k-in-loop-k
bounds-f-k-in-loop-k c = short (goal.at.bounds-f-k-in-loop-k c).In-loop-k

pub overflow_mul-i : goal.overflow_mul-i
overflow_mul-i c = omega (arith, index (goal.at.overflow_mul-i c).In-loop-k)

pub end_at-u-requires : goal.end_at-u-requires
end_at-u-requires c = omega (arith, index (goal.at.end_at-u-requires c).In-loop-k)

pub overflow_mul-i-in-loop-k : goal.overflow_mul-i-in-loop-k
overflow_mul-i-in-loop-k c = omega (arith, index (goal.at.overflow_mul-i-in-loop-k c).In-loop-k)

pub overflow_add-i : goal.overflow_add-i
overflow_add-i c = omega (arith, index (goal.at.overflow_add-i c).In-loop-k)

pub end_at-v-requires : goal.end_at-v-requires
end_at-v-requires c = omega (arith, index (goal.at.end_at-v-requires c).In-loop-k)

pub routed-requires : goal.routed-requires
routed-requires c =
    let w = c.requires.0.laying in
    (c.loop-k.invariant.0, rw c.end_at-u.ensures (start_in _ _ w _ (used (goal.at.routed-requires c).In-loop-k)), rw c.end_at-v.ensures (end_in _ _ w _ (used (goal.at.routed-requires c).In-loop-k)))

pub offset_bounds-flows-i : goal.offset_bounds-flows-i
offset_bounds-flows-i c = omega (arith, index (goal.at.offset_bounds-flows-i c).In-loop-k)

pub bounds-flows-i : goal.bounds-flows-i
bounds-flows-i c = index (goal.at.bounds-flows-i c).In-loop-k

pub loop-k-preserved : goal.loop-k-preserved
loop-k-preserved c =
    let at = c.loop-k in (
      c.routed.ensures.0,
      λ w. (routes_set (at.invariant.1 w).0 _ _ (index (goal.at.loop-k-preserved c).In-loop-k) c.routed.ensures.1, kept_set (at.invariant.1 w).1 _ _ (listed (goal.at.loop-k-preserved c).In-loop-k w)),
    )

pub returns : goal.returns
returns c = λ w. c.loop-k.invariant.1 w

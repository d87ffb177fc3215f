-- `solve_infeasible::overfull` meets its contract: the first i streams may stand where they stand, and what they press is summed.
use mathlib.Core.Path.{◌≡◌, refl, sym, ◌∙◌}
use mathlib.Core.Bool.{Bool, false}
use mathlib.Core.List.{List}
use Prim.Native.Nat.{ℕ, ◌+◌, ◌≤◌, ◌<◌, ◌*◌}
use native.Mathlib.Omega.{arith}
use lib.ListN.{get_or}
use Rattle.solve_def.specs.Sizes.{most_flow}
use Rattle.solve_def.specs.Full.{may_cross, pressed}
use Rattle.solve_arcs.specs.Cells.{to_cell, count_of}
use Rattle.solve_arcs.proofs.Rowing.{start_in, end_in}
use Rattle.solve_infeasible.proofs.Edges.{bounded_none, pressed_none, pressed_most, row_range, bounded_next, pressed_next, full_stop, full_end}
use Rattle.solve_infeasible.proofs.overfull.Goals as goal
use Rattle.solve_infeasible.proofs.overfull.Goals.{After-may_cross, After-pressed-sum, In-loop-i}

below : (c : In-loop-i) → c.loop-i.i < count_of c.args.arcs.now
below c = omega (arith, c.count_of-n.ensures)

-- The same by the cells.
may_same : (ms : List Bool) {u u' v v' : ℕ} (l : ℕ) → u ≡ u' → v ≡ v' → may_cross (get_or ms u false) (get_or ms v false) l ≡ may_cross (get_or ms u' false) (get_or ms v' false) l
may_same ms l a b = rw (a, b)

press_same : (ms : List Bool) {u u' v v' : ℕ} (l h : ℕ) → u ≡ u' → v ≡ v'
    → pressed (get_or ms u false) (get_or ms v false) l h ≡ pressed (get_or ms u' false) (get_or ms v' false) l h
press_same ms l h a b = rw (a, b)

may_is : (c : After-may_cross)
    → let ls = c.args.arcs.now in
    let ms = c.args.marked.now in
    let i = c.loop-i.i in
    c.may_cross.result ≡ may_cross (get_or ms (get_or ls (to_cell + 2 * i) 0) false) (get_or ms (get_or ls (to_cell + (2 * i + 1)) 0) false) (get_or c.args.rows.now (4 * i + 2) 0)
may_is c = c.may_cross.ensures ∙ may_same c.args.marked.now _ c.end_at.ensures c.end_at-in-loop-i.ensures

press_is : (c : After-pressed-sum)
    → let ls = c.args.arcs.now in
    let rs = c.args.rows.now in
    let ms = c.args.marked.now in
    let i = c.loop-i.i in
    c.pressed-sum.result ≡ pressed (get_or ms (get_or ls (to_cell + 2 * i) 0) false) (get_or ms (get_or ls (to_cell + (2 * i + 1)) 0) false) (get_or rs (4 * i + 2) 0) (get_or rs (4 * i + 3) 0)
press_is c =
    c.pressed-sum.ensures ∙ press_same c.args.marked.now _ _ c.end_at.ensures c.end_at-in-loop-i.ensures

pub loop-i-init : goal.loop-i-init
loop-i-init c =
    (omega arith, λ w. (bounded_none _ _, sym (pressed_none _ _)), omega (arith, c.count_of-n.ensures, c.requires.laid.along.linked.few))

pub bounds-marked-end_at : goal.bounds-marked-end_at
bounds-marked-end_at c =
    rw c.end_at.ensures (start_in _ _ c.requires _ (below (goal.at.bounds-marked-end_at c).In-loop-i))

pub bounds-marked-end_at-in-loop-i : goal.bounds-marked-end_at-in-loop-i
bounds-marked-end_at-in-loop-i c =
    rw c.end_at-in-loop-i.ensures (end_in _ _ c.requires _ (below (goal.at.bounds-marked-end_at-in-loop-i c).In-loop-i))

pub returns-then-not-may_cross : goal.returns-then-not-may_cross
returns-then-not-may_cross c = λ w. full_stop _ _ w _ _ (below (goal.at.returns-then-not-may_cross c).In-loop-i) (sym (may_is (goal.at.returns-then-not-may_cross c).After-may_cross) ∙ c.if-not-may_cross.true)

pub pressed-sum-requires : goal.pressed-sum-requires
pressed-sum-requires c =
    (row_range _ _ c.requires c.args.marked.now _ (below (goal.at.pressed-sum-requires c).In-loop-i)).1

-- No sum is too large.
sum_most : (c : After-pressed-sum) → c.pressed-sum.result ≤ most_flow
sum_most c =
    let ls = c.args.arcs.now in
    let ms = c.args.marked.now in
    let i = c.loop-i.i in
    let rs = c.args.rows.now in
    let start = get_or ms (get_or ls (to_cell + 2 * i) 0) false in
    let end = get_or ms (get_or ls (to_cell + (2 * i + 1)) 0) false in
    let m = pressed_most start end (get_or rs (4 * i + 2) 0) (get_or rs (4 * i + 3) 0) (row_range _ _ c.requires ms i (below c.before.before.before.before.before.before.before.before.before.before.before.before)).0 in
    omega (arith, press_is c, m)

pub overflow_add-sum : goal.overflow_add-sum
overflow_add-sum c =
    omega (arith, sum_most c, c.loop-i.invariant.0)

pub loop-i-preserved : goal.loop-i-preserved
loop-i-preserved c = (
  omega (arith, sum_most c, c.loop-i.invariant.0),
  λ w. (
    bounded_next _ _ w _ _ (below (goal.at.loop-i-preserved c).In-loop-i) (sym (may_is (goal.at.loop-i-preserved c).After-may_cross) ∙ c.if-not-may_cross.false) (c.loop-i.invariant.1 w).0,
    omega (arith, pressed_next _ _ w c.args.marked.now _ (below (goal.at.loop-i-preserved c).In-loop-i), press_is c, (c.loop-i.invariant.1 w).1),
  ),
  c.loop-i.invariant.2,
)

pub returns : goal.returns
returns c = λ w.
    let e : c.loop-i.i ≡ c.count_of-n.result = omega arith in
    full_end _ _ w _ c.count_of-n.result _ _ c.count_of-n.ensures (rw e at (c.loop-i.invariant.1 w).0) (rw e at (c.loop-i.invariant.1 w).1) refl

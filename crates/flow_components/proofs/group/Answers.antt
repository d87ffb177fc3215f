-- `flow_components::group` meets its contract: after i turns the labels are those of the groups by the first i streams.
use mathlib.Core.Path.{◌≡◌, sym, ◌∙◌}
use Prim.Native.Nat.{◌<◌}
use lib.ListN.{length}
use native.Mathlib.Omega.{arith}
use native.Mathlib.Numerals.{add-one}
use Rattle.plant_def.specs.declared.Plant.{Plant}
use Rattle.plant_def.specs.Says.{plant_of}
use Rattle.plant_def.proofs.Arrayed.{all_listed, listed_at}
use Rattle.flow_def.proofs.Grouping.{groups_none, ends_in_lem}
use Rattle.solve_arcs_fill.specs.Plants.{LaidOf}
use Rattle.solve_arcs_fill.proofs.Plants.{counted, few, from_at, to_at, from_low, to_low, metered_at}
use Rattle.flow_components.proofs.group.Goals as goal
use Rattle.flow_components.proofs.group.Goals.{In-loop-i}

used : (c : In-loop-i) (p : Plant) → LaidOf p c.args.arcs.now c.args.rows.now → c.loop-i.i < p.count
used c p w = rw (← counted w, ← c.count_of-n.ensures) c.loop-i-test.true

low : (c : In-loop-i) → c.loop-i.i < 96
low c = let w = c.requires in few w.1 _ (used c w.0 w.1)

pub loop-i-init : goal.loop-i-init
loop-i-init c = λ p w. groups_none _ _ _ c.own_numbers-labels.ensures

pub overflow_mul-i : goal.overflow_mul-i
overflow_mul-i c = omega (arith, low c)

pub end_at-u-requires : goal.end_at-u-requires
end_at-u-requires c = omega (arith, low c)

pub overflow_mul-i-in-loop-i : goal.overflow_mul-i-in-loop-i
overflow_mul-i-in-loop-i c = omega (arith, low (goal.at.overflow_mul-i-in-loop-i c).In-loop-i)

pub overflow_add-i : goal.overflow_add-i
overflow_add-i c = omega (arith, low (goal.at.overflow_add-i c).In-loop-i)

pub end_at-v-requires : goal.end_at-v-requires
end_at-v-requires c = omega (arith, low (goal.at.end_at-v-requires c).In-loop-i)

pub overflow_mul-i-in-loop-i-2 : goal.overflow_mul-i-in-loop-i-2
overflow_mul-i-in-loop-i-2 c = omega (arith, low (goal.at.overflow_mul-i-in-loop-i-2 c).In-loop-i)

pub offset_bounds-rows-i : goal.offset_bounds-rows-i
offset_bounds-rows-i c = omega (arith, low (goal.at.offset_bounds-rows-i c).In-loop-i)

pub bounds-rows-i : goal.bounds-rows-i
bounds-rows-i c = omega (arith, low (goal.at.bounds-rows-i c).In-loop-i)

pub join-requires : goal.join-requires
join-requires c =
    let w = c.requires in
    let l = used (goal.at.join-requires c).In-loop-i w.0 w.1 in
    (rw c.end_at-u.ensures (from_low w.1 _ l), rw c.end_at-v.ensures (to_low w.1 _ l), (c.loop-i.invariant w.0 w.1).long)

pub loop-i-preserved : goal.loop-i-preserved
loop-i-preserved c =
    let at = c.loop-i in
    λ p w.
    let l = used (goal.at.loop-i-preserved c).In-loop-i p w in
    let listed : at.i < length (plant_of p).streams = rw (all_listed p w.accepted) l in
    let from = sym (c.end_at-u.ensures ∙ from_at w at.i l) in
    let to = sym (c.end_at-v.ensures ∙ to_at w at.i l) in
    let counts = c.counts-c.ensures at.i _ (metered_at w at.i l) in
    rw (add-one at.i) ((c.join.ensures _ from to).next _ _ at.i (ends_in_lem p w.accepted) listed (listed_at p w.accepted at.i l) (sym counts) (at.invariant p w))

pub returns : goal.returns
returns c = λ p w.
    let at = c.loop-i in
    let e : at.i ≡ p.count = omega (arith, counted w, c.count_of-n.ensures, c.loop-i-test.false) in
    rw e at (at.invariant p w)

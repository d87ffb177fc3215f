-- `flow_bridges::bridges_of` meets its contract: after i turns, what holds after i steps.
use mathlib.Core.Path.{◌≡◌, sym, ◌∙◌}
use Prim.Native.Nat.{◌<◌}
use native.Mathlib.Omega.{arith}
use lib.ListN.{get_or}
use Rattle.plant_def.specs.declared.Plant.{Plant}
use Rattle.plant_def.specs.Limits.{places}
use Rattle.plant_def.specs.Plants.{no_stream}
use Rattle.flow_def.proofs.Passed.{passed_none, labels_all, sides_all, taken_in, passed_more, passed_all}
use Rattle.solve_arcs_fill.specs.Plants.{LaidOf}
use Rattle.solve_arcs_fill.proofs.Plants.{counted, few, from_at, to_at, from_low, to_low, metered_at}
use Rattle.flow_bridges.specs.Runs.{Runs}
use Rattle.flow_bridges.proofs.bridges_of.Goals as goal
use Rattle.flow_bridges.proofs.bridges_of.Goals.{After-end_at-v, In-loop-i}

abbrev Of : In-loop-i → Plant → Type 0
Of c p = LaidOf p c.args.arcs.now c.args.rows.now

used : (c : In-loop-i) (p : Plant) → Of c p → c.loop-i.i < p.count
used c p w = rw (← counted w, ← c.count_of-n.ensures) c.loop-i-test.true

low : (c : In-loop-i) → c.loop-i.i < 96
low c = let w = c.requires in few w.1 _ (used c w.0 w.1)

pub loop-i-init : goal.loop-i-init
loop-i-init c = λ p w. passed_none _ _ c.own_numbers-labels.ensures

pub overflow_mul-i : goal.overflow_mul-i
overflow_mul-i c = omega (arith, low c)

pub end_at-u-requires : goal.end_at-u-requires
end_at-u-requires c = omega (arith, low c)

pub overflow_mul-i-in-loop-i : goal.overflow_mul-i-in-loop-i
overflow_mul-i-in-loop-i c = omega (arith, low (goal.at.overflow_mul-i-in-loop-i c).In-loop-i)

pub overflow_add-i : goal.overflow_add-i
overflow_add-i c = omega (arith, low (goal.at.overflow_add-i c).In-loop-i)

pub end_at-v-requires : goal.end_at-v-requires
end_at-v-requires c = omega (arith, low (goal.at.end_at-v-requires c).In-loop-i)

pub overflow_mul-metered : goal.overflow_mul-metered
overflow_mul-metered c = omega (arith, low (goal.at.overflow_mul-metered c).In-loop-i)

pub offset_bounds-rows-i : goal.offset_bounds-rows-i
offset_bounds-rows-i c = omega (arith, low (goal.at.offset_bounds-rows-i c).In-loop-i)

pub bounds-rows-i : goal.bounds-rows-i
bounds-rows-i c = omega (arith, low (goal.at.bounds-rows-i c).In-loop-i)

-- The ends are places, and those of the plant's stream.
u_in : (c : After-end_at-v) → c.end_at-u.result < places
u_in c = let w = c.requires in rw c.end_at-u.ensures (from_low w.1 _ (used c.before.before w.0 w.1))

v_in : (c : After-end_at-v) → c.end_at-v.result < places
v_in c = let w = c.requires in rw c.end_at-v.ensures (to_low w.1 _ (used c.before.before w.0 w.1))

runs : (c : After-end_at-v) (p : Plant) → LaidOf p c.args.arcs.now c.args.rows.now → Runs (get_or p.streams c.loop-i.i no_stream) c.end_at-u.result c.end_at-v.result
runs c p w =
    let l = used c.before.before p w in
    record { start = sym (c.end_at-u.ensures ∙ from_at w _ l); end = sym (c.end_at-v.ensures ∙ to_at w _ l) }

pub taken_by-h-requires : goal.taken_by-h-requires
taken_by-h-requires c =
    let w = c.requires in
    (u_in (goal.at.taken_by-h-requires c).After-end_at-v, v_in (goal.at.taken_by-h-requires c).After-end_at-v, labels_all w.1.accepted (c.loop-i.invariant w.0 w.1))

pub bounds-taken-i : goal.bounds-taken-i
bounds-taken-i c = low (goal.at.bounds-taken-i c).In-loop-i

pub pass-looped-requires : goal.pass-looped-requires
pass-looped-requires c =
    let p = c.requires.0 in
    let w = c.requires.1 in
    let l = used (goal.at.pass-looped-requires c).In-loop-i p w in
    let inv = c.loop-i.invariant p w in
    let h = c.taken_by-h.ensures _ (runs (goal.at.pass-looped-requires c).After-end_at-v p w) (metered_at w _ l) in
    record { u_lt_places = (u_in (goal.at.pass-looped-requires c).After-end_at-v, v_in (goal.at.pass-looped-requires c).After-end_at-v, labels_all w.accepted inv, sides_all w.accepted inv, taken_in w.accepted inv l _ h); h_value = λ s r m. c.taken_by-h.ensures s r m }

pub loop-i-preserved : goal.loop-i-preserved
loop-i-preserved c =
    λ p w.
    let l = used (goal.at.loop-i-preserved c).In-loop-i p w in
    let s = get_or p.streams c.loop-i.i no_stream in
    let r = runs (goal.at.loop-i-preserved c).After-end_at-v p w in
    let m = metered_at w _ l in
    passed_more w.accepted (c.loop-i.invariant p w) l _ _ _ _ (c.taken_by-h.ensures s r m) (c.pass-looped.ensures.value s r m) (c.pass-looped.ensures.sides_after s r)
    (c.pass-looped.ensures.step_says s r m)

pub returns : goal.returns
returns c = λ p w.
    let at = c.loop-i in
    let e : at.i ≡ p.count = omega (arith, counted w, c.count_of-n.ensures, c.loop-i-test.false) in
    passed_all w.accepted (at.invariant p w) e

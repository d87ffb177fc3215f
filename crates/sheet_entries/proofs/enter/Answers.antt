-- After i turns the first i entries are written, and the weights of the first i streams summed up.
use native.Mathlib.Omega.{arith}
use mathlib.Core.Path.{◌≡◌, sym, ap, subst, ◌∙◌}
use lib.IntN.{ℤ}
use Prim.Native.Nat.{ℕ, ◌≤◌, ◌<◌, ◌*◌}
use lib.ListN.{get_or, replicate, length-replicate}
use mir.Syntax.{w64}
use mir.Val.{to_z, of_z}
use mir.Facts.{to_z-of_z}
use Rattle.plant_def.specs.declared.Plant.{Plant}
use Rattle.plant_def.specs.Limits.{max_streams}
use Rattle.plant_def.specs.Plants.{no_stream}
use Rattle.plant_def.specs.Says.{plant_of}
use Rattle.plant_def.proofs.Arrayed.{all_listed, stream_within}
use Rattle.flow_def.specs.declared.Class.{Class}
use Rattle.flow_def.specs.Calls.{Bridging, class_in}
use Rattle.flow_def.specs.Classes.{class_of}
use Rattle.flow_def.specs.Shown.{adjusted_weight}
use Rattle.flow_def.proofs.BySides.{class_in_lem}
use Rattle.num_bytes.proofs.Lists.{Written, written_none, written_put}
use Rattle.flow_test.proofs.Summing.{weighed_none, weighed_more, weighed_all}
use Rattle.solve_def.specs.Held.{unshifted}
use Rattle.solve_def.proofs.Weights.{weight_most}
use Rattle.solve_arcs_fill.specs.Plants.{LaidOf}
use Rattle.solve_arcs_fill.proofs.Plants.{counted, few, from_at, to_at, from_low, to_low, weight_at, metered_at}
use Rattle.sheet_def.specs.declared.Entry.{Entry}
use Rattle.sheet_def.specs.Balances.{entry_of}
use Rattle.sheet_def.specs.Calls.{no_entry}
use Rattle.sheet_entries.proofs.Opening.{opened_fits}
use Rattle.sheet_entries.proofs.Entering.{entries_all, weight_by}
use Rattle.sheet_entries.proofs.enter.Goals as goal
use Rattle.sheet_entries.proofs.enter.Goals.{After-class_of-c, In-loop-i}

abbrev Of : In-loop-i → Plant → Type 0
Of c p = LaidOf p c.args.arcs.now c.args.rows.now

used : (c : In-loop-i) (p : Plant) → Of c p → c.loop-i.i < p.count
used c p w = rw (← counted w, ← c.count_of-n.ensures) c.loop-i-test.true

low : (c : In-loop-i) → c.loop-i.i < 96
low c = let w = c.requires.0 in few w.1 _ (used c w.0 w.1)

-- What it weighs at most.
light : (c : In-loop-i) → get_or c.args.rows.now (4 * c.loop-i.i) 0 ≤ 1000
light c =
    let p = c.requires.0.0 in
    let w = c.requires.0.1 in
    let l = used c p w in
    rw (weight_at w _ l) (weight_most _ (stream_within p w.accepted _ l))

pub loop-i-init : goal.loop-i-init
loop-i-init c = λ p w q. (written_none (length-replicate {A = Entry} max_streams c.blank_entry-none.result), weighed_none p)

pub overflow_mul-w : goal.overflow_mul-w
overflow_mul-w c = omega (arith, low c)

pub offset_bounds-rows-i : goal.offset_bounds-rows-i
offset_bounds-rows-i c = omega (arith, low c)

pub bounds-rows-i : goal.bounds-rows-i
bounds-rows-i c = omega (arith, low (goal.at.bounds-rows-i c).In-loop-i)

pub overflow_mul-i : goal.overflow_mul-i
overflow_mul-i c = omega (arith, low (goal.at.overflow_mul-i c).In-loop-i)

pub end_at-u-requires : goal.end_at-u-requires
end_at-u-requires c = omega (arith, low (goal.at.end_at-u-requires c).In-loop-i)

pub overflow_mul-i-in-loop-i : goal.overflow_mul-i-in-loop-i
overflow_mul-i-in-loop-i c = omega (arith, low (goal.at.overflow_mul-i-in-loop-i c).In-loop-i)

pub overflow_add-i : goal.overflow_add-i
overflow_add-i c = omega (arith, low (goal.at.overflow_add-i c).In-loop-i)

pub end_at-v-requires : goal.end_at-v-requires
end_at-v-requires c = omega (arith, low (goal.at.end_at-v-requires c).In-loop-i)

pub bounds-bridges-i : goal.bounds-bridges-i
bounds-bridges-i c = low (goal.at.bounds-bridges-i c).In-loop-i

pub class_of-c-requires : goal.class_of-c-requires
class_of-c-requires c =
    let p = c.requires.0.0 in
    let w = c.requires.0.1 in
    let q = c.requires.0.2 in
    let l = used (goal.at.class_of-c-requires c).In-loop-i p w in
    (rw c.end_at-u.ensures (from_low w _ l), rw c.end_at-v.ensures (to_low w _ l), q.grouped.long, q.low _ l)

pub overflow_add-weights : goal.overflow_add-weights
overflow_add-weights c =
    let o = c.requires.0 in
    omega (arith, (c.loop-i.invariant o.0 o.1 o.2).1.most, c.adjusted_weight-weights.ensures.1, light (goal.at.overflow_add-weights c).In-loop-i, low (goal.at.overflow_add-weights c).In-loop-i)

pub offset_bounds-held-i : goal.offset_bounds-held-i
offset_bounds-held-i c = omega (arith, low (goal.at.offset_bounds-held-i c).In-loop-i)

pub bounds-held-i : goal.bounds-held-i
bounds-held-i c = low (goal.at.bounds-held-i c).In-loop-i

pub opened_flow-x-requires : goal.opened_flow-x-requires
opened_flow-x-requires c =
    c.requires.1 _ (low (goal.at.opened_flow-x-requires c).In-loop-i)

-- The class that a turn finds, for a plant that was laid.
in_class : (c : After-class_of-c) (p : Plant) → LaidOf p c.args.arcs.now c.args.rows.now → Bridging p c.args.bridges → c.class_of-c.result
    ≡ class_in c.args.bridges.labels (get_or p.streams c.loop-i.i no_stream) (get_or c.args.bridges.taken c.loop-i.i 0) c.args.bridges.looped
in_class c p w q =
    let l = used c.before.before.before.before.before.before.before.before p w in
    c.class_of-c.ensures (get_or p.streams c.loop-i.i no_stream) (metered_at w _ l) (sym (c.end_at-u.ensures ∙ from_at w _ l)) (sym (c.end_at-v.ensures ∙ to_at w _ l))

is_class : (c : After-class_of-c) (p : Plant) → LaidOf p c.args.arcs.now c.args.rows.now → Bridging p c.args.bridges → c.class_of-c.result ≡ class_of (plant_of p) c.loop-i.i
is_class c p w q = in_class c p w q ∙ class_in_lem w.accepted q _ (used c.before.before.before.before.before.before.before.before p w)

pub loop-i-preserved : goal.loop-i-preserved
loop-i-preserved c =
    let on = (goal.at.loop-i-preserved c).In-loop-i in
    let at = c.loop-i in
    let fits = opened_fits (get_or c.args.held.now at.i 0) (c.requires.1 _ (low on)) in
    let flow = ap (λ (z : ℤ). to_z w64 (of_z w64 z)) c.opened_flow-x.ensures ∙ to_z-of_z fits in
    λ p w q.
    let l = used on p w in
    let s = get_or p.streams at.i no_stream in
    let class = is_class (goal.at.loop-i-preserved c).After-class_of-c p w q in
    let weight = weight_by c.args.bridges.labels s (get_or c.args.bridges.taken at.i 0) c.args.bridges.looped _ _ _ (in_class (goal.at.loop-i-preserved c).After-class_of-c p w q)
    (weight_at w _ l) c.adjusted_weight-weights.ensures.0
    ∙ ap (λ (k : Class). adjusted_weight k s) class in (
      written_put (at.invariant p w q).0 (low on) _ (c.entry_of.ensures ∙ (λ i. entry_of (class i) (flow i))),
      weighed_more w.accepted (at.invariant p w q).1 l _ weight (omega (arith, c.adjusted_weight-weights.ensures.1, light on)),
    )

pub returns : goal.returns
returns c =
    let at = c.loop-i in
    let o = c.requires.0 in
    let most = (at.invariant o.0 o.1 o.2).1 in (
      λ p w q.
          let e : at.i ≡ p.count = omega (arith, counted w, c.count_of-n.ensures, c.loop-i-test.false) in
          let v = at.invariant p w q in
          let put : ℕ → Entry → Entry = λ k e. entry_of (class_of (plant_of p) k) (unshifted (get_or c.args.held.now k 0)) in
          let blank_past =
          subst (λ (x : Entry). Written no_entry max_streams put (replicate max_streams x) at.streams at.i) c.blank_entry-none.ensures v.0 in (
            entries_all (plant_of p) at.i c.args.held.now _ (all_listed p w.accepted ∙ sym e) (omega (arith, w.accepted.within.few_streams)) c.requires.2 blank_past,
            weighed_all w.accepted v.1 (omega arith),
          ),
      omega (arith, most.most, most.within, o.1.accepted.within.few_streams),
    )

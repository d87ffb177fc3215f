-- Each turn adds one stream, by its row.
use native.Mathlib.Omega.{arith}
use Prim.Native.Nat.{◌<◌}
use Rattle.plant_def.specs.declared.Plant.{Plant}
use Rattle.solve_def.proofs.Weights.{weight_most}
use Rattle.plant_def.proofs.Arrayed.{stream_within}
use Rattle.solve_arcs_fill.specs.Plants.{LaidOf}
use Rattle.solve_arcs_fill.proofs.Plants.{counted, few, weight_at}
use Rattle.sheet_cost.proofs.Costing.{summed_none}
use Rattle.sheet_cost.proofs.Rows.{row_reads, held_more, held_all}
use Rattle.sheet_cost.proofs.cost_held.Goals as goal
use Rattle.sheet_cost.proofs.cost_held.Goals.{In-loop-i}

used : (c : In-loop-i) (p : Plant) → LaidOf p c.args.arcs.now c.args.rows.now → c.loop-i.i < p.count
used c p w = rw (← counted w, ← c.count_of-n.ensures) c.loop-i-test.true

low : (c : In-loop-i) → c.loop-i.i < 96
low c = let w = c.requires.0 in few w.1 _ (used c w.0 w.1)

pub loop-i-init : goal.loop-i-init
loop-i-init c = λ p w. summed_none p _

pub overflow_mul-i : goal.overflow_mul-i
overflow_mul-i c = omega (arith, low c)

pub offset_bounds-rows-i : goal.offset_bounds-rows-i
offset_bounds-rows-i c = omega (arith, low c)

pub bounds-rows-i : goal.bounds-rows-i
bounds-rows-i c = omega (arith, low (goal.at.bounds-rows-i c).In-loop-i)

pub overflow_mul-i-in-loop-i : goal.overflow_mul-i-in-loop-i
overflow_mul-i-in-loop-i c = omega (arith, low (goal.at.overflow_mul-i-in-loop-i c).In-loop-i)

pub overflow_add-i : goal.overflow_add-i
overflow_add-i c = omega (arith, low (goal.at.overflow_add-i c).In-loop-i)

pub offset_bounds-rows-i-in-loop-i : goal.offset_bounds-rows-i-in-loop-i
offset_bounds-rows-i-in-loop-i c = omega (arith, low (goal.at.offset_bounds-rows-i-in-loop-i c).In-loop-i)

pub bounds-rows-i-in-loop-i : goal.bounds-rows-i-in-loop-i
bounds-rows-i-in-loop-i c = omega (arith, low (goal.at.bounds-rows-i-in-loop-i c).In-loop-i)

pub offset_bounds-flows-i : goal.offset_bounds-flows-i
offset_bounds-flows-i c = omega (arith, low (goal.at.offset_bounds-flows-i c).In-loop-i)

pub bounds-flows-i : goal.bounds-flows-i
bounds-flows-i c = low (goal.at.bounds-flows-i c).In-loop-i

pub row_cost-cost-requires : goal.row_cost-cost-requires
row_cost-cost-requires c =
    let p = c.requires.0.0 in
    let w = c.requires.0.1 in
    let l = used (goal.at.row_cost-cost-requires c).In-loop-i p w in
    (rw (weight_at w _ l) (weight_most _ (stream_within p w.accepted _ l)), c.requires.1 _ (low (goal.at.row_cost-cost-requires c).In-loop-i), (_, row_reads p w _ l))

pub loop-i-preserved : goal.loop-i-preserved
loop-i-preserved c =
    λ p w. held_more p w c.args.flows.now c.requires.1 c.requires.2 (c.loop-i.invariant p w) (used (goal.at.loop-i-preserved c).In-loop-i p w) _ _ c.row_cost-cost.ensures c.capped_sum-sum.ensures

pub returns : goal.returns
returns c = λ p w.
    held_all p w c.args.flows.now c.requires.1 c.requires.2 (c.loop-i.invariant p w) (omega (arith, counted w, c.count_of-n.ensures, c.loop-i-test.false))

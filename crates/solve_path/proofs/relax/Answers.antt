-- `solve_path::relax` meets its contract: what is left of the arcs comes to what all come to from the start.
use mathlib.Core.Path.{◌∙◌}
use Prim.Native.Nat.{◌<◌, ◌/◌}
use native.Mathlib.Omega.{arith}
use Rattle.plant_def.specs.Limits.{places, max_streams}
use Rattle.solve_arcs.proofs.Passing.{low_all, head_in, next_less, margin_small}
use Rattle.solve_path.proofs.Coding.{Turn, turn_none, turn_more, turn_all}
use Rattle.solve_path.proofs.relax.Goals as goal
use Rattle.solve_path.proofs.relax.Goals.{After-end_at-v, In-loop-arc}

abbrev inv : (c : In-loop-arc)
    → let a = c.args in
    let l = c.loop-arc in
    Turn a.arcs.now a.margins.now a.potentials.now a.at.distance a.at.place a.near.now a.at.fringe l.near l.fringe l.arc
inv c = c.loop-arc.invariant

pub loop-arc-init : goal.loop-arc-init
loop-arc-init c =
    turn_none _ _ _ _ _ _ _ c.requires.3 _ (c.first_at-arc.ensures ∙ c.requires.0.linked.first _ c.requires.1)

-- Where the arc leads, and its stream.
end_in : (c : After-end_at-v) → c.end_at-v.result < places
end_in c =
    rw c.end_at-v.ensures (head_in _ c.requires.0.linked _ (inv (record { before = c.before.before; type_inv = record { potentials = c.type_inv.potentials } })).m _ (inv (record { before = c.before.before; type_inv = record { potentials = c.type_inv.potentials } })).few (inv (record { before = c.before.before; type_inv = record { potentials = c.type_inv.potentials } })).at c.loop-arc-test.true)

low_in : (c : In-loop-arc) → c.loop-arc.arc / 2 < max_streams
low_in c = low_all _ c.requires.0.linked _ (inv c).m _ (inv c).few (inv c).at c.loop-arc-test.true

pub offset_bounds-potentials-v : goal.offset_bounds-potentials-v
offset_bounds-potentials-v c = omega (arith, end_in (goal.at.offset_bounds-potentials-v c).After-end_at-v)

pub bounds-potentials-v : goal.bounds-potentials-v
bounds-potentials-v c = end_in (goal.at.bounds-potentials-v c).After-end_at-v

pub reduced_cost-g-requires : goal.reduced_cost-g-requires
reduced_cost-g-requires c = (
  margin_small _ c.requires.0.linked _ (inv (goal.at.reduced_cost-g-requires c).In-loop-arc).m _ (inv (goal.at.reduced_cost-g-requires c).In-loop-arc).few (inv (goal.at.reduced_cost-g-requires c).In-loop-arc).at c.loop-arc-test.true c.args.margins.now c.args.potentials.now c.requires.0.small,
  c.requires.0.potentials _ c.requires.1,
  c.requires.0.potentials _ (end_in (goal.at.reduced_cost-g-requires c).After-end_at-v),
)

pub overflow_add-at : goal.overflow_add-at
overflow_add-at c = omega (arith, c.reduced_cost-g.ensures.1, c.requires.2)

pub offer-bit-requires : goal.offer-bit-requires
offer-bit-requires c =
    (omega (arith, c.reduced_cost-g.ensures.1, c.requires.2), end_in (goal.at.offer-bit-requires c).After-end_at-v, low_in (goal.at.offer-bit-requires c).In-loop-arc, (inv (goal.at.offer-bit-requires c).In-loop-arc).long)

pub loop-arc-smaller : goal.loop-arc-smaller
loop-arc-smaller c =
    rw c.next_at-arc.ensures (next_less _ c.requires.0.linked _ (inv (goal.at.loop-arc-smaller c).In-loop-arc).m _ (inv (goal.at.loop-arc-smaller c).In-loop-arc).few (inv (goal.at.loop-arc-smaller c).In-loop-arc).at c.loop-arc-test.true)

pub loop-arc-preserved : goal.loop-arc-preserved
loop-arc-preserved c =
    rw (c.offer-bit.ensures.0, c.offer-bit.ensures.1, c.reduced_cost-g.ensures.0, c.end_at-v.ensures, c.next_at-arc.ensures)
    (turn_more _ _ _ _ _ _ _ _ _ _ (inv (goal.at.loop-arc-preserved c).In-loop-arc) c.requires.0.linked c.loop-arc-test.true)

pub returns : goal.returns
returns c =
    let at = c.loop-arc.invariant in
    (at.long, turn_all _ _ _ _ _ _ _ _ _ _ at c.requires.0.linked c.loop-arc-test.false)

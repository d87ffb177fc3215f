-- `solve_augment::augment` meets its contract: with j streams to go the augmentation comes to what it comes to from the start.
use mathlib.Core.Path.{◌≡◌, refl}
use Prim.Native.Nat.{◌<◌, ◌-◌}
use native.Mathlib.Omega.{arith}
use lib.Dec.{eqb}
use lib.ListN.{get_or}
use Rattle.plant_def.specs.Limits.{max_streams}
use Rattle.solve_arcs.proofs.Rowing.{row_of}
use Rattle.solve_augment.proofs.Augments.{augment_index, augment_most, augment_place, augment_hits, augment_misses, augmented_all}
use Rattle.solve_augment.proofs.augment.Goals as goal
use Rattle.solve_augment.proofs.augment.Goals.{In-loop-j}

-- The remembered stream is in use.
index : (c : In-loop-j) → get_or c.args.via.now (c.loop-j.j - 1) 0 < max_streams
index c = omega (arith, augment_index _ _ _ _ _ _ _ _ _ _ _ _ _ c.loop-j.invariant c.loop-j-test.true c.requires.2, c.requires.0.laid.along.linked.few)

pub loop-j-init : goal.loop-j-init
loop-j-init c = record { short = omega arith; byte = omega arith; roomy = c.requires.3; long = c.requires.4; margined = λ skip m o. m; same = λ w. refl }

pub overflow_mul-i : goal.overflow_mul-i
overflow_mul-i c = omega (arith, index (goal.at.overflow_mul-i c).In-loop-j)

pub overflow_add-i : goal.overflow_add-i
overflow_add-i c = omega (arith, index (goal.at.overflow_add-i c).In-loop-j)

pub end_at-requires : goal.end_at-requires
end_at-requires c = omega (arith, index (goal.at.end_at-requires c).In-loop-j)

pub overflow_cast-forwards : goal.overflow_cast-forwards
overflow_cast-forwards c = omega (arith, c.loop-j.invariant.byte)

pub offset_bounds-flows-i : goal.offset_bounds-flows-i
offset_bounds-flows-i c = omega (arith, index (goal.at.offset_bounds-flows-i c).In-loop-j)

pub bounds-flows-i : goal.bounds-flows-i
bounds-flows-i c = index (goal.at.bounds-flows-i c).In-loop-j

pub moved-x-requires : goal.moved-x-requires
moved-x-requires c =
    let r = c.loop-j.invariant.roomy in
    omega (arith, r.low _ (index (goal.at.moved-x-requires c).In-loop-j), r.high _ (index (goal.at.moved-x-requires c).In-loop-j), c.requires.1)

pub offset_bounds-flows-i-then-ends-j : goal.offset_bounds-flows-i-then-ends-j
offset_bounds-flows-i-then-ends-j c = omega (arith, index (goal.at.offset_bounds-flows-i-then-ends-j c).In-loop-j)

pub bounds-flows-i-then-ends-j : goal.bounds-flows-i-then-ends-j
bounds-flows-i-then-ends-j c = index (goal.at.bounds-flows-i-then-ends-j c).In-loop-j

pub put_margins-requires : goal.put_margins-requires
put_margins-requires c =
    let w = c.requires.0 in
    let k = augment_index _ _ _ _ _ _ _ _ _ _ _ _ _ c.loop-j.invariant c.loop-j-test.true c.requires.2 in
    let forwards = eqb c.end_at.result c.loop-j.at in (
      row_of _ _ _ w.network w.laid.rowed _ (rw w.laid.along.counted at k),
      rw c.moved-x.ensures (augment_most _ _ _ _ _ _ _ _ _ _ _ _ _ c.loop-j.invariant c.loop-j-test.true c.requires.1 (index (goal.at.put_margins-requires c).In-loop-j) forwards),
      c.requires.1,
      c.loop-j.invariant.long,
    )

pub place_at-at-requires : goal.place_at-at-requires
place_at-at-requires c =
    index (goal.at.place_at-at-requires c).In-loop-j

pub overflow_cast-at : goal.overflow_cast-at
overflow_cast-at c =
    let place = augment_place _ _ _ _ _ _ _ _ _ _ _ _ _ c.loop-j.invariant c.loop-j-test.true c.requires.1 c.requires.2 c.requires.0 in
    rw c.place_at-at.ensures (omega (arith, place (eqb c.end_at.result c.loop-j.at)))

pub loop-j-preserved-then-ends-j : goal.loop-j-preserved-then-ends-j
loop-j-preserved-then-ends-j c =
    rw (c.place_at-at.ensures, c.put_margins.ensures, c.moved-x.ensures, c.end_at.ensures)
    (augment_hits _ _ _ _ _ _ _ _ _ _ _ _ _ c.loop-j.invariant c.loop-j-test.true c.requires.1 c.requires.2 c.requires.0 c.if-ends-j.true)

pub loop-j-preserved : goal.loop-j-preserved
loop-j-preserved c =
    augment_misses _ _ _ _ _ _ _ _ _ _ _ _ _ c.loop-j.invariant c.loop-j-test.true c.requires.1 c.requires.2 c.requires.0 c.if-ends-j.false

pub returns : goal.returns
returns c = let z : c.loop-j.j ≡ 0 = omega arith in augmented_all _ _ _ _ _ _ _ _ _ _ _ _ (rw z at c.loop-j.invariant)

-- `solve_settle::excess_sum` meets its contract: the sum of the first places.
use mathlib.Core.Path.{◌≡◌, sym, ◌∙◌}
use native.Mathlib.Omega.{arith}
use Rattle.plant_def.specs.Limits.{places}
use Rattle.solve_def.specs.Sizes.{net_room}
use Rattle.solve_def.proofs.Turns.{over_next, over_none, over_all, over_to_most}
use Rattle.solve_settle.proofs.excess_sum.Goals as goal

pub loop-z-init : goal.loop-z-init
loop-z-init c = sym (over_none _)

pub overflow_add-sum : goal.overflow_add-sum
overflow_add-sum c =
    let high = c.requires.high in
    omega (
      arith,
      c.saturating_sub-sum.ensures,
      high c.loop-z.z-index (omega arith),
      c.loop-z.invariant,
      over_to_most c.args.nets.now net_room c.loop-z.z-index (λ v l. high v (omega arith)),
    )

pub loop-z-preserved : goal.loop-z-preserved
loop-z-preserved c =
    omega (arith, c.saturating_sub-sum.ensures, c.loop-z.invariant, over_next c.args.nets.now c.loop-z.z-index)

pub returns : goal.returns
returns c =
    let e : c.loop-z.z-index ≡ places = omega arith in
    (rw e at c.loop-z.invariant) ∙ (rw c.requires.long at (over_all c.args.nets.now))

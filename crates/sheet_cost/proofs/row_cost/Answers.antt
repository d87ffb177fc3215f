-- One quotient: how far the amount is from the reading. With weight 0 nothing is apart.
use native.Mathlib.Omega.{arith}
use mathlib.Core.Path.{◌∙◌}
use Prim.Native.Nat.{◌*◌, ◌≤◌}
use Rattle.solve_def.specs.Sizes.{most_pull}
use Rattle.solve_def.proofs.Weights.{pull_most}
use Rattle.sheet_cost.proofs.Rows.{has_weight, quotient_cost}
use Rattle.sheet_cost.proofs.row_cost.Goals as goal
use Rattle.sheet_cost.proofs.row_cost.Goals.{Start}

pulled : (c : Start) → c.args.w * c.args.x ≤ most_pull
pulled c = pull_most c.args.w c.args.x c.requires.0 c.requires.1

pub weighed_square-requires : goal.weighed_square-requires
weighed_square-requires c =
    (c.requires.0, has_weight c.args.w c.args.x c.requires.2.0 c.args.pull c.abs_diff.result _ c.requires.2.1 c.abs_diff.ensures (λ h. omega (arith, c.max.ensures)))

pub returns : goal.returns
returns c = λ R e.
    let a = c.args in
    c.weighed_square.ensures ∙ quotient_cost a.w a.x R a.pull c.abs_diff.result c.max.result e c.abs_diff.ensures (λ h. omega (arith, c.max.ensures))

pub overflow_mul-w : goal.overflow_mul-w
overflow_mul-w c = record { fits = omega (arith, pulled c) }

pub overflow_mul-w-2 : goal.overflow_mul-w-2
overflow_mul-w-2 c = record { fits = omega (arith, pulled c) }

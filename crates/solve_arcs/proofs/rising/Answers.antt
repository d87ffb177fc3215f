-- `solve_arcs::rising` meets its contract: by whether the amount can rise.
use Prim.Native.Nat.{◌*◌, ◌≤◌}
use native.Mathlib.Omega.{arith}
use native.Mathlib.Nat.{mul-le-mul}
use borrow.Author.Tests.{le-leb, lt-leb}
use Rattle.plant_def.specs.Limits.{max_weight}
use Rattle.solve_def.specs.Sizes.{most_pull, most_step}
use Rattle.solve_def.proofs.Weights.{pull_most}
use Rattle.solve_arcs.proofs.rising.Goals as goal
use Rattle.solve_arcs.proofs.rising.Goals.{Start}

pulled : (c : Start) → c.args.w * c.args.x ≤ most_pull
pulled c = pull_most _ _ c.requires.0 c.requires.2

stepped : (c : Start) → c.args.w * c.args.delta ≤ max_weight * most_step
stepped c = mul-le-mul c.requires.0 c.requires.3

pub overflow_mul-result : goal.overflow_mul-result
overflow_mul-result c = omega (arith, pulled (goal.at.overflow_mul-result c).Start)

pub overflow_mul-result-then-x-delta : goal.overflow_mul-result-then-x-delta
overflow_mul-result-then-x-delta c = omega (arith, pulled (goal.at.overflow_mul-result-then-x-delta c).Start)

pub overflow_mul-result-then-x-delta-2 : goal.overflow_mul-result-then-x-delta-2
overflow_mul-result-then-x-delta-2 c = omega (arith, stepped (goal.at.overflow_mul-result-then-x-delta-2 c).Start)

pub overflow_add-result : goal.overflow_add-result
overflow_add-result c = omega (arith, stepped (goal.at.overflow_add-result c).Start)

pub overflow_add-result-then-x-delta : goal.overflow_add-result-then-x-delta
overflow_add-result-then-x-delta c = omega (arith, stepped (goal.at.overflow_add-result-then-x-delta c).Start, pulled (goal.at.overflow_add-result-then-x-delta c).Start)

pub returns-then-x-delta : goal.returns-then-x-delta
returns-then-x-delta c = λ low. rw (le-leb _ _ c.if-x-delta.true)

pub returns : goal.returns
returns c = λ low. rw (lt-leb _ _ c.if-x-delta.false)

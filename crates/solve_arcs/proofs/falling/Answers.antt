-- `solve_arcs::falling` meets its contract: by whether the amount can fall.
use Prim.Native.Nat.{◌*◌, ◌≤◌}
use native.Mathlib.Omega.{arith}
use native.Mathlib.Nat.{mul-le-mul}
use borrow.Author.Tests.{le-leb, lt-leb}
use Rattle.plant_def.specs.Limits.{max_weight}
use Rattle.solve_def.specs.Sizes.{most_pull, most_step}
use Rattle.solve_def.proofs.Weights.{pull_most}
use Rattle.solve_arcs.proofs.falling.Goals as goal
use Rattle.solve_arcs.proofs.falling.Goals.{Start}

pulled : (c : Start) → c.args.w * c.args.x ≤ most_pull
pulled c = pull_most _ _ c.requires.0 c.requires.2

stepped : (c : Start) → c.args.w * c.args.delta ≤ max_weight * most_step
stepped c = mul-le-mul c.requires.0 c.requires.3

pub overflow_mul-result : goal.overflow_mul-result
overflow_mul-result c = omega (arith, stepped (goal.at.overflow_mul-result c).Start)

pub overflow_add-result : goal.overflow_add-result
overflow_add-result c = omega (arith, stepped (goal.at.overflow_add-result c).Start)

pub overflow_add-result-then-low-delta : goal.overflow_add-result-then-low-delta
overflow_add-result-then-low-delta c = omega (arith, stepped (goal.at.overflow_add-result-then-low-delta c).Start)

pub overflow_mul-result-then-low-delta : goal.overflow_mul-result-then-low-delta
overflow_mul-result-then-low-delta c = omega (arith, pulled (goal.at.overflow_mul-result-then-low-delta c).Start)

pub overflow_mul-result-then-low-delta-2 : goal.overflow_mul-result-then-low-delta-2
overflow_mul-result-then-low-delta-2 c = omega (arith, pulled (goal.at.overflow_mul-result-then-low-delta-2 c).Start)

pub overflow_sub-result : goal.overflow_sub-result
overflow_sub-result c = omega (arith, pulled (goal.at.overflow_sub-result c).Start)

pub returns-then-low-delta : goal.returns-then-low-delta
returns-then-low-delta c = λ high. rw (le-leb _ _ c.if-low-delta.true)

pub returns : goal.returns
returns c = λ high. rw (lt-leb _ _ c.if-low-delta.false)

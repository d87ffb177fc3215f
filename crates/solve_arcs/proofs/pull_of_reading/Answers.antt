-- `solve_arcs::pull_of_reading` meets its contract: the product fits, by the bounds of weight and reading.
use Prim.Native.Nat.{◌*◌, ◌≤◌}
use native.Mathlib.Omega.{arith}
use Rattle.solve_def.specs.Sizes.{most_pull}
use Rattle.solve_def.proofs.Weights.{weight_most, pull_most}
use Rattle.solve_arcs.proofs.pull_of_reading.Goals as goal
use Rattle.solve_arcs.proofs.pull_of_reading.Goals.{After-reading_of}

bound : (c : After-reading_of) → c.weight_of.result * c.reading_of.result ≤ most_pull
bound c = pull_most _ _ (rw c.weight_of.ensures (weight_most c.args.s c.requires)) c.reading_of.ensures.1

pub overflow_mul-result : goal.overflow_mul-result
overflow_mul-result c = omega (arith, bound c)

pub returns : goal.returns
returns c = (rw (c.weight_of.ensures, c.reading_of.ensures.0), bound c)

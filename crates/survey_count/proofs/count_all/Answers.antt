-- `count_all` meets its contract: the numbers passed are counted, by size.
use native.Mathlib.Omega.{arith}
use Rattle.survey_def.proofs.Turns.{tally_most}
use Rattle.survey_count.proofs.count_all.Goals as goal

pub overflow_add-counts : goal.overflow_add-counts
overflow_add-counts c = record { fits = omega (arith, tally_most _ _ _ c.loop-m.invariant _ c.ones_of.ensures.1) }

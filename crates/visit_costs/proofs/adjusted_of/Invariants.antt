-- After k turns the first k streams are told.
use mathlib.Core.Bool.{false}
use lib.ListN.{get_or}
use Rattle.plant_def.specs.Limits.{max_streams}
use Rattle.flow_def.specs.declared.Class.TheVariants.{Adjusted}
use Rattle.num_bytes.proofs.Lists.{Written}
use Rattle.visit_def.specs.Visits.{is_adjusted}
use Rattle.visit_costs.proofs.adjusted_of.Given as goal

abbrev pub invariant-loop-k : goal.invariant-loop-k
invariant-loop-k l = Written false max_streams (λ j x. is_adjusted (get_or l.fn.classes j Adjusted)) l.initial.r l.r l.k

-- After k turns the first k streams are told.
use mathlib.Core.Path.{◌≡◌}
use mathlib.Core.Bool.{Bool, false}
use native.Mathlib.Omega.{arith}
use lib.ListN.{length-replicate}
use Rattle.plant_def.specs.Limits.{max_streams}
use Rattle.num_bytes.proofs.Lists.{written_none, written_put}
use Rattle.visit_costs.proofs.adjusted_of.Goals as goal

pub loop-k-init : goal.loop-k-init
loop-k-init c = written_none (length-replicate {A = Bool} max_streams false)

pub loop-k-preserved : goal.loop-k-preserved
loop-k-preserved c = written_put c.loop-k.invariant (omega arith) _ c.is_adjusted.ensures

pub returns : goal.returns
returns c = let e : c.loop-k.k ≡ max_streams = omega arith in rw e at c.loop-k.invariant

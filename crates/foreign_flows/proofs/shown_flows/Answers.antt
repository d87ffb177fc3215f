-- After i turns the first i flows are written.
use native.Mathlib.Omega.{arith}
use Rattle.foreign_flows.proofs.Checking as C
use Rattle.foreign_flows.proofs.shown_flows.Goals as goal

pub returns : goal.returns
returns c = let w = c.loop-i.invariant in C.shown_all c.args.classes c.args.entries c.loop-i.flow-items w.long (λ k l. w.done k (omega arith))

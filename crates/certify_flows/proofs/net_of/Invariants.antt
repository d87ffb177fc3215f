-- After i turns the net is that by the first i streams.
use Rattle.flow_def.specs.Flows.{amount_at}
use Rattle.certify_def.specs.Test.{wide_at}
use Rattle.certify_flows.proofs.Turning as T
use Rattle.certify_flows.proofs.net_of.Given as goal

abbrev pub invariant-loop-i : goal.invariant-loop-i
invariant-loop-i l = T.Netted (wide_at l.streams) (amount_at l.flow) l.u l.net l.i

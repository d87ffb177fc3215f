-- Each turn hands over the next flow.
use lib.IntN.{ℤ}
use Rattle.sheet_def.specs.declared.Entry.{Entry}
use Rattle.num_lent.proofs.Handing.{Handing}
use Rattle.sheet_parts.proofs.put_flows.Given as goal

abbrev pub shown : Entry → ℤ
shown e = e.flow

abbrev pub invariant-loop-k : goal.invariant-loop-k
invariant-loop-k l = Handing shown l.streams l.count l.initial.flows l.flows l.k

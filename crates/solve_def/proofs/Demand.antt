-- Demand 3 and refusal 19: the definitions of the solver, which need no hint, decide every plant.
use Rattle.flow_def.specs.Shown.{Demand3}
use Rattle.flow_def.specs.Overfull.{Refusal19}
use Rattle.flow_def.proofs.Decided as Decided
use Rattle.solve_def.proofs.Theorem.{decided}

-- Every plant that is read has its cheapest flow.
pub demand_3 : Demand3
demand_3 = Decided.demand_3 decided

-- Or it is refused with 19, and an overfull set tells why.
pub refusal_19 : Refusal19
refusal_19 = Decided.refusal_19 decided

-- `flow_components::own_numbers` meets its contract: the labels passed are the places' own numbers.
use Rattle.plant_def.specs.Limits.{places}
use Rattle.num_bytes.proofs.Lists.{Written}
use Rattle.flow_components.proofs.own_numbers.Given as goal

abbrev pub invariant-loop-own : goal.invariant-loop-own
invariant-loop-own l = Written 0 places (λ k x. k) l.initial.labels l.labels l.own

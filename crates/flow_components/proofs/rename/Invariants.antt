-- `flow_components::rename` meets its contract: the labels passed are renamed, the others are as they were.
use Rattle.plant_def.specs.Limits.{places}
use Rattle.flow_def.specs.Labels.{renamed}
use Rattle.num_bytes.proofs.Lists.{Written}
use Rattle.flow_components.proofs.rename.Given as goal

abbrev pub invariant-loop-x : goal.invariant-loop-x
invariant-loop-x l = Written 0 places (λ k x. renamed l.lo l.hi x) l.initial.labels l.labels l.x-index

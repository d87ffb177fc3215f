-- `newton_descend::by_label` meets its contract: the places passed have the potentials of their labels.
use Rattle.std.proofs.Common.{get_or}
use Rattle.plant_def.specs.Limits.{places}
use Rattle.num_bytes.proofs.Lists.{Written}
use Rattle.newton_descend.proofs.by_label.Given as goal

abbrev pub invariant-loop-u : goal.invariant-loop-u
invariant-loop-u l = Written 0 places (λ k x. get_or l.potentials (get_or l.fn.labels k 0) 0) l.initial.r l.r l.u

-- `newton_descend::nets::moved` meets its contract: the potentials of the places passed are moved.
use Rattle.std.proofs.Common.{◌≡◌}
use Rattle.newton_descend.specs.Nets.{moved_to}
use Rattle.newton_descend.proofs.nets.moved.Given as goal

abbrev pub invariant-loop-u : goal.invariant-loop-u
invariant-loop-u l = l.r ≡ moved_to l.potentials l.direction l.t l.initial.r l.u

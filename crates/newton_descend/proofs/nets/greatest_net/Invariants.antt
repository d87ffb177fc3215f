-- `newton_descend::nets::greatest_net` meets its contract: the greatest size of the nets passed is known.
use Rattle.std.proofs.Common.{◌≡◌}
use Rattle.newton_descend.specs.Nets.{greatest_to}
use Rattle.newton_descend.proofs.nets.greatest_net.Given as goal

abbrev pub invariant-loop-z : goal.invariant-loop-z
invariant-loop-z l = l.most ≡ greatest_to l.nets l.z-index

-- `newton_descend::greatest` meets its contract: the greatest of the potentials passed is known.
use Rattle.std.proofs.Common.{◌≡◌}
use Rattle.newton_descend.specs.Nets.{highest_to}
use Rattle.newton_descend.proofs.greatest.Given as goal

abbrev pub invariant-loop-y : goal.invariant-loop-y
invariant-loop-y l = l.most ≡ highest_to l.x l.y-index

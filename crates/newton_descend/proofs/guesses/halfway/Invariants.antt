-- `newton_descend::guesses::halfway` meets its contract: of the groups passed the greatest change and the least are known.
use Rattle.std.proofs.Common.{◌≡◌}
use Rattle.newton_descend.specs.Nets.{highest_to}
use Rattle.newton_descend.specs.Guesses.{lowest_to}
use Rattle.newton_descend.proofs.guesses.halfway.Given as goal

abbrev pub invariant-loop-change : goal.invariant-loop-change
invariant-loop-change l = (l.most ≡ highest_to l.way l.change-index) × (l.least ≡ lowest_to l.way l.change-index)

-- `newton_descend::lowered` meets its contract: each store keeps the bounds.
use Rattle.newton_descend.specs.Levels.{Banded}
use Rattle.newton_descend.proofs.lowered.Given as goal

abbrev pub invariant-loop-u : goal.invariant-loop-u
invariant-loop-u l = Banded l.top l.band l.r

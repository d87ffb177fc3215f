-- `newton_descend::nets::nets_at` meets its contract: the first k streams are brought.
use Rattle.std.proofs.Common.{◌≡◌}
use Rattle.newton_descend.specs.Nets.{nets_to}
use Rattle.newton_descend.proofs.nets.nets_at.Given as goal

abbrev pub invariant-loop-k : goal.invariant-loop-k
invariant-loop-k l = l.nets ≡ nets_to l.streams.ends.now l.streams.meters.now l.potentials l.k

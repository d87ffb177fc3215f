-- `newton_descend::guesses::crowded` meets its contract: what the streams passed bring in is summed.
use Rattle.std.proofs.Common.{◌≡◌}
use Rattle.newton_descend.specs.Guesses.{into_to}
use Rattle.newton_descend.proofs.guesses.crowded.Given as goal

abbrev pub invariant-loop-k : goal.invariant-loop-k
invariant-loop-k l = l.sum ≡ into_to l.streams.ends.now l.streams.meters.now l.bits l.k

-- Each turn lends the rest from its potential on.
use Rattle.std.proofs.Common.{◌≡◌, length}
use Rattle.case_calls.proofs.compressed.put_potentials.Given as goal

abbrev pub invariant-loop-u : goal.invariant-loop-u
invariant-loop-u l = length l.out ≡ 264

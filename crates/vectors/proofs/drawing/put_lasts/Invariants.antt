-- Each turn lends the rest from its number on.
use Rattle.std.proofs.Common.{◌≡◌, length}
use Rattle.vectors.proofs.drawing.put_lasts.Given as goal

abbrev pub invariant-loop-k : goal.invariant-loop-k
invariant-loop-k l = length l.out ≡ length l.initial.out

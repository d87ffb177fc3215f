-- `newton_descend::guesses::marks_of` meets its contract: the marks of the first u places are written.
use Rattle.std.proofs.Common.{false, ◌&&◌, leb}
use Rattle.plant_def.specs.Limits.{places}
use Rattle.num_bytes.specs.Sums.{bit}
use Rattle.num_bytes.proofs.Lists.{Written}
use Rattle.newton_descend.proofs.guesses.marks_of.Given as goal

abbrev pub invariant-loop-u : goal.invariant-loop-u
invariant-loop-u l = Written false places (λ k x. bit k l.bits && leb k l.n) l.initial.mark-items l.mark-items l.u

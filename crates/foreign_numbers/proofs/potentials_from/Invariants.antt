-- After u turns the first u numbers are written.
use lib.IntN.{pos}
use Rattle.plant_def.specs.Limits.{places}
use Rattle.num_bytes.proofs.Lists.{Written}
use Rattle.foreign_def.specs.Test.{potential_from}
use Rattle.foreign_numbers.proofs.potentials_from.Given as goal

abbrev pub invariant-loop-u : goal.invariant-loop-u
invariant-loop-u l = Written (pos 0) places (λ k z. potential_from l.potentials k) l.initial.numbers l.numbers l.u

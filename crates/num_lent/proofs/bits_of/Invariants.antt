-- The bits of the marks passed.
use mathlib.Core.Path.{◌≡◌}
use lib.ListN.{take}
use Rattle.num_lent.proofs.Marking.{bits_of}
use Rattle.num_lent.proofs.bits_of.Given as goal

abbrev pub invariant-loop-u : goal.invariant-loop-u
invariant-loop-u l = l.bits ≡ bits_of (take l.u l.fn.marked)

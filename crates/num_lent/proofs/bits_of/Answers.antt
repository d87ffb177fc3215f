-- The bits of the marks passed.
use borrow.Author.Rules.{rules}
use native.Mathlib.Omega.{arith}
use mathlib.Core.Path.{◌≡◌}
use lib.ListN.{length}
use lib.Seq.{take_all}
use Rattle.plant_def.specs.Limits.{places}
use Rattle.num_lent.proofs.Marking.{bits_more, bits_fit, bits_all}
use Rattle.num_lent.proofs.bits_of.Goals as goal

pub overflow_add-bits : goal.overflow_add-bits
overflow_add-bits c = record { fits = omega (arith, c.loop-u.invariant, bits_fit c.args.marked (search rules) c.loop-u.u c.loop-u-test.true _ c.from.ensures) }

pub loop-u-preserved : goal.loop-u-preserved
loop-u-preserved c = rw c.loop-u.invariant (bits_more c.args.marked (search rules) c.loop-u.u c.loop-u-test.true _ c.from.ensures)

pub returns : goal.returns
returns c =
    let l : length c.args.marked ≡ places = search rules in
    bits_all c.args.marked _ l (rw (take_all c.loop-u.u c.args.marked (omega (arith, l))) at c.loop-u.invariant)

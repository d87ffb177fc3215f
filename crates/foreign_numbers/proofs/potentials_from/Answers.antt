-- After u turns the first u numbers are written.
use native.Mathlib.Omega.{arith}
use Rattle.foreign_numbers.proofs.Potentials.{numbered_all}
use Rattle.foreign_numbers.proofs.potentials_from.Goals as goal

pub returns : goal.returns
returns c =
    let at = c.loop-u in
    numbered_all c.args.units at.u c.args.potentials at.numbers (omega arith) at.invariant

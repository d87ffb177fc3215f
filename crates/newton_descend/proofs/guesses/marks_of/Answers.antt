-- `newton_descend::guesses::marks_of` meets its contract: the marks of the first u places are written.
use Rattle.std.proofs.Common.{◌≡◌, arith}
use Rattle.plant_def.specs.Limits.{places}
use Rattle.newton_descend.proofs.Guessing.{marks_all}
use Rattle.newton_descend.proofs.guesses.marks_of.Goals as goal

pub returns : goal.returns
returns c =
    let e : c.loop-u.u ≡ places = omega arith in
    marks_all _ _ (rw e at c.loop-u.invariant)

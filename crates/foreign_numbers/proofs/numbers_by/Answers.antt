-- By whether a flow was found.
use mathlib.Core.Path.{refl}
use borrow.Author.Tests.{not-true, not-false}
use Rattle.std.specs.Prelude.{Err}
use Rattle.plant_def.specs.declared.refusal.Refusal.TheVariants.{NoFlow}
use Rattle.plant_def.specs.Says.{plant_of}
use Rattle.plant_def.proofs.Arrayed.{within_of}
use Rattle.sheet_def.proofs.Opening.{right_found, right_overfull}
use Rattle.solve_def.specs.Promise.{Solution}
use Rattle.foreign_def.specs.Views.{numbers_as}
use Rattle.foreign_def.proofs.Serving.{no_numbers_of}
use Rattle.foreign_numbers.proofs.Potentials.{found_numbers}
use Rattle.foreign_numbers.proofs.numbers_by.Goals as goal
use Rattle.foreign_numbers.proofs.numbers_by.Goals.{Else-not-solved}

pub returns-then-not-solved : goal.returns-then-not-solved
returns-then-not-solved c =
    no_numbers_of (plant_of c.args.p) (within_of c.args.p c.requires.0) (numbers_as (Err NoFlow)) c.args.solved.marked
    (right_overfull c.args.p c.args.solved c.requires.1 (not-true c.args.solved.found c.if-not-solved.true)) refl

-- A flow was found.
solution : (c : Else-not-solved) → Solution c.args.p c.args.solved
solution c =
    right_found c.args.p c.args.solved c.requires.1 (not-false c.args.solved.found c.if-not-solved.false)

pub potentials_from-requires : goal.potentials_from-requires
potentials_from-requires c = (c.requires.0.within.few_units, (solution (goal.at.potentials_from-requires c).Else-not-solved).bound)

pub returns : goal.returns
returns c =
    found_numbers c.args.p c.requires.0 c.args.solved (solution (goal.at.returns c).Else-not-solved) c.potentials_from.result c.potentials_from.ensures

-- By the slice's length, then by what the call says.
use Rattle.std.specs.Prelude.{Ok, Err}
use mathlib.Core.Path.{refl}
use Prim.Native.Nat.{◌≤◌}
use borrow.Author.Rules.{rules}
use Rattle.plant_def.specs.Limits.{places}
use Rattle.foreign_def.specs.Views.{numbers_as}
use Rattle.foreign_numbers.proofs.Numbering.{numbers_few, lends_nothing, lends_numbers}
use Rattle.foreign_numbers.proofs.numbers_lent.Goals as goal
use Rattle.foreign_numbers.proofs.numbers_lent.Goals.{In-Ok}

pub returns-then-out-lt-PLACES : goal.returns-then-out-lt-PLACES
returns-then-out-lt-PLACES c = let a = c.args in lends_nothing a.file.now a.out.now c.if-out-lt-PLACES.true

few : (c : In-Ok) → c.in-Ok.made.count ≤ places
few c = numbers_few c.args.file.now (numbers_as (Ok c.in-Ok.made)) c.in-Ok.ensures

pub slice_bounds-copy_from_slice-end-in-Ok : goal.slice_bounds-copy_from_slice-end-in-Ok
slice_bounds-copy_from_slice-end-in-Ok c =
    let n = few (goal.at.slice_bounds-copy_from_slice-end-in-Ok c).In-Ok in
    search rules

pub returns-in-Ok : goal.returns-in-Ok
returns-in-Ok c =
    let a = c.args in
    let n = few (goal.at.returns-in-Ok c).In-Ok in
    lends_numbers a.file.now a.out.now c.if-out-lt-PLACES.false (numbers_as (Ok c.in-Ok.made)) c.in-Ok.ensures _ (search rules)

pub returns-in-Err : goal.returns-in-Err
returns-in-Err c =
    let a = c.args in
    rw c.number.ensures
    (lends_numbers a.file.now a.out.now c.if-out-lt-PLACES.false (numbers_as (Err c.in-Err.refusal)) c.in-Err.ensures a.out.now refl)

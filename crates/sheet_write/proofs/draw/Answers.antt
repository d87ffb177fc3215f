-- By whether a flow was found.
use borrow.Author.Rules.{rules}
use native.Mathlib.Omega.{arith}
use mathlib.Core.Path.{refl}
use borrow.Author.Tests.{not-true, not-false}
use mir.Syntax.{w32}
use mir.Val.{Fits}
use Rattle.sheet_def.proofs.Promise.{long_enough, has_counter, one_left}
use Rattle.sheet_write.proofs.Drawn.{drawn_none, drawn_sheet}
use Rattle.sheet_write.proofs.draw.Goals as goal

pub returns-then-not-outcome : goal.returns-then-not-outcome
returns-then-not-outcome c =
    let a = c.args in
    drawn_none a.count a.office a.lasts a.outcome a.sheet.now a.sheet.now c.overfilled.result
    (not-true a.outcome.found c.if-not-outcome.true) c.overfilled.ensures refl

pub overflow_add-next : goal.overflow_add-next
overflow_add-next c =
    let f : Fits w32 c.last_of-next.result = search rules in
    record { fits = omega (arith, one_left c.args.office c.args.lasts c.args.sheet.now c.requires.1, c.last_of-next.ensures, f.fits) }

pub put_sheet-written-requires : goal.put_sheet-written-requires
put_sheet-written-requires c =
    (c.requires.0, long_enough c.args.office c.args.lasts c.args.sheet.now c.requires.1)

pub raise-after-requires : goal.raise-after-requires
raise-after-requires c =
    let f : Fits w32 c.last_of-next.result = search rules in (
      has_counter c.args.office c.args.lasts c.args.sheet.now c.requires.1,
      omega (arith, one_left c.args.office c.args.lasts c.args.sheet.now c.requires.1, c.last_of-next.ensures, f.fits),
    )

pub returns : goal.returns
returns c =
    let a = c.args in
    drawn_sheet a.count a.office a.lasts a.outcome a.sheet.now c.put_sheet-written.new.out c.put_sheet-written.result c.last_of-next.result c.raise-after.result
    (not-false a.outcome.found c.if-not-outcome.false) c.last_of-next.ensures c.raise-after.ensures c.put_sheet-written.ensures

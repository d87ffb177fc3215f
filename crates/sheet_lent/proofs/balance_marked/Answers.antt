-- The call's promise, its marks as bits.
use mathlib.Core.Path.{sym, subst}
use mathlib.Core.Bool.{Bool}
use mathlib.Core.List.{List}
use Rattle.sheet_def.specs.declared.Sheet.{Sheet}
use Rattle.sheet_def.specs.Says.{SheetSays}
use Rattle.sheet_lent.proofs.balance_marked.Goals as goal

pub returns : goal.returns
returns c =
    let a = c.args in
    let y = c.balance_plant-drawn.result in
    let told : List Bool → Sheet = λ ms. record { number = y.number; written = y.written; lasts = y.lasts; marked = ms } in (
      subst (λ (ms : List Bool). SheetSays a.file.now a.office a.lasts a.sheet.now c.balance_plant-drawn.new.sheet (told ms))
          (sym c.bits_of-bits.ensures.0) c.balance_plant-drawn.ensures,
      c.bits_of-bits.ensures.1,
    )

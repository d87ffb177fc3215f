-- By how many last numbers there are.
use native.Mathlib.Omega.{arith}
use mathlib.Core.Path.{refl, subst}
use mathlib.Core.List.{List}
use Prim.Native.Nat.{ℕ}
use Rattle.sheet_def.specs.Says.{SheetSays}
use Rattle.sheet_lent.specs.Bits.{with_bits}
use Rattle.sheet_lent.proofs.Lending.{too_few, enough}
use Rattle.sheet_lent.proofs.balance_lent.Goals as goal

pub returns-then-lasts-lt-OFFICES : goal.returns-then-lasts-lt-OFFICES
returns-then-lasts-lt-OFFICES c =
    let a = c.args in
    (too_few a.file.now a.office a.lasts.now a.sheet.now a.sheet.now _ c.if-lasts-lt-OFFICES.true (refl, refl), omega arith)

pub returns : goal.returns
returns c =
    let a = c.args in
    let y = c.balance_marked-drawn.result in
    let o = a.sheet.now in
    let o' = c.balance_marked-drawn.new.sheet in
    let said = subst (λ (ls : List ℕ). SheetSays a.file.now a.office ls o o' (with_bits y.number y.written y.lasts y.bits))
    c.lasts_in-before.ensures c.balance_marked-drawn.ensures.0 in (
      enough a.file.now a.office a.lasts.now o o' (with_bits y.number y.written c.put_lasts.new.lasts y.bits)
          c.if-lasts-lt-OFFICES.false y.lasts c.put_lasts.ensures.1 c.put_lasts.ensures.0 said,
      c.balance_marked-drawn.ensures.1,
    )

-- An element of the array, or past it.
use borrow.Author.Rules.{rules}
use native.Mathlib.Omega.{arith}
use mathlib.Core.Path.{◌≡◌, sym}
use lib.ListN.{length, get_or-eq_default}
use Rattle.sheet_def.specs.Counters.{offices}
use Rattle.sheet_write.proofs.last_of.Goals as goal

pub returns : goal.returns
returns c =
    let a = c.args in
    let l : length a.lasts ≡ offices = search rules in
    sym (get_or-eq_default a.lasts 0 (omega (arith, l, c.if-at-lt-OFFICES.false)))

-- `newton_laplacian::readings::some_range` meets its contract: the streams passed have none.
use mathlib.Core.Path.{◌≡◌, sym}
use native.Mathlib.Omega.{arith}
use borrow.Author.Tests.{lt-ltb, le-ltb}
use Rattle.newton_laplacian.proofs.Rows.{ranged_none, ranged_more, ranged_found}
use Rattle.newton_laplacian.proofs.readings.some_range.Goals as goal

pub loop-i-init : goal.loop-i-init
loop-i-init c = ranged_none _

pub returns-then-rows-i-lt-MOST_FLOW : goal.returns-then-rows-i-lt-MOST_FLOW
returns-then-rows-i-lt-MOST_FLOW c =
    sym (ranged_found _ c.loop-i.i _ c.loop-i-test.true (lt-ltb _ _ c.if-rows-i-lt-MOST_FLOW.true))

pub loop-i-preserved : goal.loop-i-preserved
loop-i-preserved c = ranged_more _ _ c.loop-i.invariant (le-ltb _ _ c.if-rows-i-lt-MOST_FLOW.false)

pub returns : goal.returns
returns c =
    let e : c.loop-i.i ≡ c.args.n = omega arith in
    sym (rw e at c.loop-i.invariant)

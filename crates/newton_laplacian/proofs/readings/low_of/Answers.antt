-- `newton_laplacian::readings::low_of` meets its contract: the end of the range, as a real number, or far away.
use Prim.Native.Nat.{◌+◌, ◌*◌}
use native.Mathlib.Omega.{arith}
use borrow.Author.Tests.{lt-ltb, le-ltb}
use lib.ListN.{get_or}
use lib.Ieee.{in_float}
use Rattle.newton_laplacian.proofs.Reals.{whole_is, whole_in}
use Rattle.newton_laplacian.proofs.readings.low_of.Goals as goal

pub int_to_float-result : goal.int_to_float-result
int_to_float-result c = whole_in (get_or c.args.rows.now (4 * c.args.i + 2) 0) (omega (arith, c.requires.row.low_in))

pub int_to_float-result-then-rows-i-lt-MOST_FLOW : goal.int_to_float-result-then-rows-i-lt-MOST_FLOW
unfolding in_float
int_to_float-result-then-rows-i-lt-MOST_FLOW c = tt

pub returns-then-rows-i-lt-MOST_FLOW : goal.returns-then-rows-i-lt-MOST_FLOW
returns-then-rows-i-lt-MOST_FLOW c =
    rw (whole_is (get_or c.args.rows.now (4 * c.args.i + 2) 0) (omega (arith, c.requires.row.low_in)), lt-ltb _ _ c.if-rows-i-lt-MOST_FLOW.true)

pub returns : goal.returns
returns c = rw (le-ltb _ _ c.if-rows-i-lt-MOST_FLOW.false)

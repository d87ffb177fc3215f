-- `newton_laplacian::readings::reading_of` meets its contract: what is made a real number is exact.
use mathlib.Core.List.{List}
use Prim.Native.Nat.{ℕ, ◌+◌, ◌-◌, ◌*◌, ◌≤◌}
use native.Mathlib.Omega.{arith}
use lib.ListN.{get_or}
use lib.Ieee.{in_float}
use Rattle.newton_laplacian.specs.Readings.{least_read, Read}
use Rattle.newton_laplacian.proofs.Reals.{exact, whole_is, whole_in}
use Rattle.newton_laplacian.proofs.readings.reading_of.Goals as goal

few : {rs : List ℕ} {k : ℕ} → Read rs k → get_or rs (4 * k + 1) 0 - get_or rs (4 * k) 0 * least_read ≤ exact
few r = omega (arith, r.least, r.most, r.row.light)

pub int_to_float-result : goal.int_to_float-result
int_to_float-result c = whole_in (get_or c.args.rows.now (4 * c.args.i + 1) 0 - get_or c.args.rows.now (4 * c.args.i) 0 * least_read) (few c.requires)

pub int_to_float-result-2 : goal.int_to_float-result-2
unfolding in_float
int_to_float-result-2 c = tt

pub returns : goal.returns
returns c =
    rw (whole_is (get_or c.args.rows.now (4 * c.args.i + 1) 0 - get_or c.args.rows.now (4 * c.args.i) 0 * least_read) (few c.requires))

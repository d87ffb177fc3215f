-- `newton_laplacian::readings::some_range` meets its contract: the streams passed have none.
use mathlib.Core.Path.{◌≡◌}
use mathlib.Core.Bool.{false}
use Rattle.newton_laplacian.specs.Readings.{ranged_to}
use Rattle.newton_laplacian.proofs.readings.some_range.Given as goal

abbrev pub invariant-loop-i : goal.invariant-loop-i
invariant-loop-i l = ranged_to l.rows l.i ≡ false

-- `newton_laplacian::elimination::change_at` meets its contract: the places before it are taken off the right-hand side.
use mathlib.Core.Path.{◌≡◌}
use Rattle.newton_laplacian.specs.Cells.{rest_to}
use Rattle.newton_laplacian.proofs.elimination.change_at.Given as goal

abbrev pub invariant-loop-j : goal.invariant-loop-j
invariant-loop-j l = l.rest ≡ rest_to l.a l.x l.k l.j

-- `newton_laplacian::elimination::substitute` meets its contract: each store keeps the length.
use mathlib.Core.Path.{◌≡◌}
use lib.ListN.{length}
use Rattle.plant_def.specs.Limits.{places}
use Rattle.newton_laplacian.proofs.elimination.substitute.Given as goal

abbrev pub invariant-loop-k : goal.invariant-loop-k
invariant-loop-k l = length l.x ≡ places

-- `solve_forest::roots` meets its contract: each store keeps the length.
use Rattle.std.proofs.Common.{◌≡◌, length}
use Rattle.plant_def.specs.Limits.{places}
use Rattle.solve_forest.proofs.roots.Given as goal

abbrev pub invariant-loop-u : goal.invariant-loop-u
invariant-loop-u l = length l.reached ≡ places

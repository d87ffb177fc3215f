-- After k turns the costs of the first k streams are found.
use mathlib.Core.Path.{◌≡◌}
use lib.ListN.{length}
use Rattle.plant_def.specs.Limits.{max_streams}
use Rattle.plant_def.specs.Says.{plant_of}
use Rattle.visit_costs.proofs.Gone.{SoFar}
use Rattle.visit_costs.proofs.costs_without.Given as goal

abbrev pub invariant-loop-k : goal.invariant-loop-k
invariant-loop-k l = (length l.costs ≡ max_streams) × SoFar (plant_of l.p) l.listed l.costs l.k

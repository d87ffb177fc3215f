-- `solve_path::lower` meets its contract: the potentials of the first u places are reduced.
use mathlib.Core.Bool.{false}
use Prim.Native.Nat.{◌-◌}
use lib.ListN.{get_or}
use Rattle.plant_def.specs.Limits.{places}
use Rattle.solve_def.specs.Search.{fallen}
use Rattle.num_bytes.proofs.Lists.{Written}
use Rattle.solve_path.proofs.lower.Given as goal

abbrev pub invariant-loop-u : goal.invariant-loop-u
invariant-loop-u l = Written 0 places (λ k x. fallen (get_or l.visited k false) (l.reach - get_or l.dist k 0) x) l.initial.potentials l.potentials l.u

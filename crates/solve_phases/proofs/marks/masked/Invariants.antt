-- `solve_phases::marks::masked` meets its contract: the marks of the first u places are written.
use mathlib.Core.Bool.{false, ◌&&◌}
use lib.Dec.{leb}
use lib.ListN.{get_or}
use Rattle.plant_def.specs.Limits.{places}
use Rattle.num_bytes.proofs.Lists.{Written}
use Rattle.solve_phases.proofs.marks.masked.Given as goal

abbrev pub invariant-loop-u : goal.invariant-loop-u
invariant-loop-u l = Written false places (λ k x. get_or l.marked k false && leb k l.n) l.initial.own_u-items l.own_u-items l.u

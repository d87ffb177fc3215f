-- After i turns the nets are those by the first i streams.
use Rattle.plant_def.specs.Within.{Accepted}
use Rattle.foreign_sets.proofs.Carrying as C
use Rattle.foreign_sets.proofs.nets_by.Given as goal

abbrev pub invariant-loop-i : goal.invariant-loop-i
invariant-loop-i l = (a : Accepted l.p) → C.Tallied l.p a l.labels l.flows l.nets l.i

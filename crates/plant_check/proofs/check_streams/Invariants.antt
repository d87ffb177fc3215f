-- The streams that are left decide.
use mathlib.Core.Path.{◌≡◌}
use lib.ListN.{drop}
use Rattle.plant_def.specs.Plants.{first_fault}
use Rattle.plant_check.proofs.check_streams.Given as goal

abbrev pub invariant-loop-s : goal.invariant-loop-s
invariant-loop-s l = first_fault l.units l.streams ≡ first_fault l.units (drop l.s-index l.streams)

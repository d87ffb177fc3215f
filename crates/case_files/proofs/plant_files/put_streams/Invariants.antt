-- Each turn lends the rest from its record on.
use mathlib.Core.Path.{◌≡◌}
use lib.ListN.{length}
use Rattle.case_files.proofs.plant_files.put_streams.Given as goal

abbrev pub invariant-loop-i : goal.invariant-loop-i
invariant-loop-i l = length l.out ≡ 1632

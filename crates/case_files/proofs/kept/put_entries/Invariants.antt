-- Each turn lends the rest from its entry on.
use mathlib.Core.Path.{◌≡◌}
use lib.ListN.{length}
use Rattle.case_files.proofs.kept.put_entries.Given as goal

abbrev pub invariant-loop-i : goal.invariant-loop-i
invariant-loop-i l = length l.out ≡ 864

-- After i turns the first i entries are written, and the weights of the first i streams summed up.
use lib.ListN.{get_or}
use Rattle.plant_def.specs.declared.Plant.{Plant}
use Rattle.plant_def.specs.Limits.{max_streams}
use Rattle.plant_def.specs.Says.{plant_of}
use Rattle.flow_def.specs.Calls.{Bridging}
use Rattle.flow_def.specs.Classes.{class_of}
use Rattle.num_bytes.proofs.Lists.{Written}
use Rattle.flow_test.proofs.Summing.{Weighed}
use Rattle.solve_def.specs.Held.{unshifted}
use Rattle.solve_arcs_fill.specs.Plants.{LaidOf}
use Rattle.sheet_def.specs.Balances.{entry_of}
use Rattle.sheet_def.specs.Calls.{no_entry}
use Rattle.sheet_entries.proofs.enter.Given as goal

abbrev pub invariant-loop-i : goal.invariant-loop-i
invariant-loop-i l =
    (p : Plant) → LaidOf p l.arcs l.rows → Bridging p l.bridges
    → Written no_entry max_streams (λ k e. entry_of (class_of (plant_of p) k) (unshifted (get_or l.held k 0))) l.initial.streams l.streams l.i × Weighed p l.weights l.i

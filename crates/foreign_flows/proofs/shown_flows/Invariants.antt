-- After i turns the first i flows are written.
use lib.IntN.{pos}
use lib.ListN.{get_or}
use Rattle.num_bytes.specs.Choice.{pick}
use Rattle.plant_def.specs.Limits.{max_streams}
use Rattle.flow_def.specs.declared.Class.TheVariants.{Adjusted}
use Rattle.num_bytes.proofs.Lists.{Written}
use Rattle.sheet_def.specs.Sheets.{known}
use Rattle.sheet_def.specs.Calls.{no_entry}
use Rattle.foreign_flows.proofs.shown_flows.Given as goal

abbrev pub invariant-loop-i : goal.invariant-loop-i
invariant-loop-i l = Written (pos 0) max_streams (λ k x. pick (known (get_or l.classes k Adjusted)) (get_or l.entries k no_entry).flow (pos 0)) l.initial.flow-items l.flow-items l.i

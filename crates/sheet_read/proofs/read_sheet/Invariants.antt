-- Each record read makes one turn of the loop, and the record that is no stream ends it.
use Prim.Native.Nat.{◌-◌}
use Rattle.plant_def.specs.Files.{most_records}
use Rattle.sheet_read.proofs.Loop.{Reading}
use Rattle.sheet_read.proofs.read_sheet.Given as goal

abbrev pub invariant-loop-entry : goal.invariant-loop-entry
invariant-loop-entry l = Reading l.bytes l.streams l.count l.at

abbrev pub decreases-loop-entry : goal.decreases-loop-entry
decreases-loop-entry l = most_records - l.count

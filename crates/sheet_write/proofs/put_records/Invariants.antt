-- Each turn lends the part that starts at the next free byte.
use mathlib.Core.Path.{◌≡◌}
use Prim.Native.Nat.{◌≤◌}
use lib.ListN.{length, take}
use Rattle.num_bytes.proofs.Rows.{Rows}
use Rattle.plant_def.specs.Limits.{max_streams}
use Rattle.sheet_def.specs.Sheets.{records_of}
use Rattle.sheet_def.specs.Totals.{stream_size}
use Rattle.sheet_write.proofs.put_records.Given as goal

abbrev pub invariant-loop-i : goal.invariant-loop-i
invariant-loop-i l = (l.count ≤ max_streams) × (length l.streams ≡ max_streams) × Rows (λ k. records_of (take k l.streams)) stream_size l.count l.initial.out l.out l.at l.i

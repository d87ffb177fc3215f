-- After i turns the first i records fit.
use mathlib.Core.Path.{◌≡◌}
use mathlib.Core.Bool.{true, ◌&&◌}
use lib.IntN.{nat_abs}
use Prim.Native.Nat.{ℕ, ◌<◌}
use lib.Dec.{eqb, leb}
use lib.ListN.{get_or}
use Rattle.flow_def.specs.declared.Class.TheVariants.{Adjusted}
use Rattle.flow_def.specs.Flows.{amount_at}
use Rattle.solve_def.specs.Sizes.{flow_shift}
use Rattle.sheet_def.specs.Sheets.{kind_of}
use Rattle.sheet_def.specs.Calls.{no_entry}
use Rattle.foreign_flows.proofs.records_fit.Given as goal

abbrev pub invariant-loop-i : goal.invariant-loop-i
invariant-loop-i l = (j : ℕ) → j < l.i → (eqb (kind_of (get_or l.entries j no_entry).class) (kind_of (get_or l.classes j Adjusted)) && leb (nat_abs (amount_at l.flows j)) flow_shift) ≡ true

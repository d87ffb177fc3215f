-- After i turns the first i flows fit.
use mathlib.Core.Path.{◌≡◌}
use mathlib.Core.Bool.{true}
use Prim.Native.Nat.{ℕ, ◌<◌}
use Rattle.flow_def.specs.Flows.{stream_at, amount_at}
use Rattle.foreign_def.specs.Passing.{difference}
use Rattle.foreign_def.specs.Test.{flow_fits}
use Rattle.foreign_flows.proofs.flows_fit.Given as goal

abbrev pub invariant-loop-i : goal.invariant-loop-i
invariant-loop-i l = (j : ℕ) → j < l.i → flow_fits (stream_at l.p.streams j) (amount_at l.flows j) (difference l.numbers (stream_at l.p.streams j)) ≡ true

-- After i turns the first i flows fit.
use mathlib.Core.Path.{◌≡◌}
use mathlib.Core.Bool.{Bool, true}
use mathlib.Core.List.{List}
use lib.IntN.{ℤ}
use Prim.Native.Nat.{ℕ, ◌<◌}
use Rattle.flow_def.specs.Flows.{amount_at}
use Rattle.flow_def.specs.Certificate.{climb, listed_potential}
use Rattle.foreign_def.specs.Test.{flow_fits}
use Rattle.certify_def.specs.declared.WideStream.{WideStream}
use Rattle.certify_def.specs.Test.{wide_at}
use Rattle.certify_flows.proofs.flows_fit.Given as goal

abbrev pub test : List WideStream → List ℤ → List ℤ → ℕ → Bool
test streams flow numbers k = flow_fits (wide_at streams k) (amount_at flow k) (climb (listed_potential numbers) (wide_at streams k))

abbrev pub invariant-loop-i : goal.invariant-loop-i
invariant-loop-i l = (j : ℕ) → j < l.i → test l.streams l.flow l.numbers j ≡ true

-- After u turns the nets of the first u units are 0.
use mathlib.Core.Path.{◌≡◌}
use mathlib.Core.Bool.{Bool, true}
use mathlib.Core.List.{List}
use lib.IntN.{ℤ, nat_abs}
use Prim.Native.Nat.{ℕ, suc, ◌<◌}
use lib.Dec.{eqb}
use Rattle.flow_def.specs.Flows.{amount_at}
use Rattle.certify_def.specs.declared.WideStream.{WideStream}
use Rattle.certify_def.specs.Test.{wide_at, net_to}
use Rattle.certify_flows.proofs.nets_fit.Given as goal

abbrev pub test : List WideStream → List ℤ → ℕ → ℕ → Bool
test streams flow count u = eqb (nat_abs (net_to (wide_at streams) (amount_at flow) (suc u) count)) 0

abbrev pub invariant-loop-u : goal.invariant-loop-u
invariant-loop-u l = (j : ℕ) → j < l.u → test l.streams l.flow l.count j ≡ true

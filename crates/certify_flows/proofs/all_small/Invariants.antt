-- After i turns the first i numbers are within the limit.
use mathlib.Core.Path.{◌≡◌}
use mathlib.Core.Bool.{Bool, true}
use mathlib.Core.List.{List}
use lib.IntN.{ℤ, nat_abs}
use Prim.Native.Nat.{ℕ, ◌<◌}
use lib.Dec.{leb}
use Rattle.flow_def.specs.Flows.{amount_at}
use Rattle.certify_flows.proofs.all_small.Given as goal

abbrev pub test : List ℤ → ℕ → ℕ → Bool
test zs limit k = leb (nat_abs (amount_at zs k)) limit

abbrev pub invariant-loop-z : goal.invariant-loop-z
invariant-loop-z l = (j : ℕ) → j < l.z-index → test l.zs l.limit j ≡ true

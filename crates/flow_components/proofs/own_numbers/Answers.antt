-- `flow_components::own_numbers` meets its contract: the labels passed are the places' own numbers.
use mathlib.Core.Path.{◌≡◌, refl}
use Prim.Native.Nat.{ℕ}
use native.Mathlib.Omega.{arith}
use lib.ListN.{length-replicate}
use Rattle.plant_def.specs.Limits.{places}
use Rattle.flow_def.specs.Labels.{own_numbers}
use Rattle.num_bytes.proofs.Lists.{values_long, values_at, written_none, written_put, written_all}
use Rattle.flow_components.proofs.own_numbers.Goals as goal

pub loop-own-init : goal.loop-own-init
loop-own-init c = written_none (length-replicate {A = ℕ} places 0)

pub loop-own-preserved : goal.loop-own-preserved
loop-own-preserved c = written_put c.loop-own.invariant (omega arith) _ refl

pub returns : goal.returns
returns c =
    let e : c.loop-own.own ≡ places = omega arith in
    written_all (rw e at c.loop-own.invariant) own_numbers (values_long (λ u. u) places) (values_at (λ u. u) 0 places)

-- `flow_components::own_labels` meets its contract: the places passed that bear their own number are counted.
use mathlib.Core.Path.{◌≡◌}
use Prim.Native.Nat.{◌-◌}
use native.Mathlib.Omega.{arith}
use Rattle.flow_def.proofs.Degrees.{own_most}
use Rattle.flow_components.proofs.own_labels.Goals as goal

pub overflow_add-c : goal.overflow_add-c
overflow_add-c c = omega (arith, own_most c.args.labels (c.loop-u.u - 1))

pub returns : goal.returns
returns c = let e : c.loop-u.u - 1 ≡ c.args.n = omega arith in rw e at c.loop-u.invariant.1

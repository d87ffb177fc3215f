-- `flow_components::own_labels` meets its contract: the places passed that bear their own number are counted.
use mathlib.Core.Path.{◌≡◌}
use Prim.Native.Nat.{◌≤◌, ◌+◌, ◌-◌}
use Rattle.flow_def.specs.Labels.{own_labels}
use Rattle.flow_components.proofs.own_labels.Given as goal

abbrev pub invariant-loop-u : goal.invariant-loop-u
invariant-loop-u l = (l.u ≤ l.n + 1) × (l.c ≡ own_labels l.labels (l.u - 1))

-- Each turn hands over whether the next stream is metered, its weight and its reading.
use lib.IntN.{ℤ}
use Prim.Native.Nat.{ℕ}
use lib.ListN.{length}
use Rattle.num_bytes.specs.Choice.{pick}
use Rattle.plant_def.specs.declared.Stream.{Stream}
use Rattle.num_lent.proofs.Handing.{Handing}
use Rattle.plant_lent.proofs.put_meters.Given as goal

abbrev pub told : Stream → ℕ
told s = pick {A = ℕ} s.metered 1 0

abbrev pub weighed : Stream → ℕ
weighed s = s.weight

abbrev pub read : Stream → ℤ
read s = s.reading

abbrev pub invariant-loop-k : goal.invariant-loop-k
invariant-loop-k l =
    Handing told l.s-items (length l.s-items) l.initial.metered l.metered l.k × Handing weighed l.s-items (length l.s-items) l.initial.weight l.weight l.k × Handing read l.s-items (length l.s-items) l.initial.reading l.reading l.k

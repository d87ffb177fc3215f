-- Each turn hands over the next stream's ends.
use Prim.Native.Nat.{ℕ}
use lib.ListN.{length}
use Rattle.plant_def.specs.declared.Stream.{Stream}
use Rattle.num_lent.proofs.Handing.{Handing}
use Rattle.plant_lent.proofs.put_ends.Given as goal

abbrev pub leaves : Stream → ℕ
leaves s = s.from

abbrev pub enters : Stream → ℕ
enters s = s.to

abbrev pub invariant-loop-k : goal.invariant-loop-k
invariant-loop-k l = Handing leaves l.s-items (length l.s-items) l.initial.from l.from l.k × Handing enters l.s-items (length l.s-items) l.initial.to l.to l.k

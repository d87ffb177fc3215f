-- Each turn hands over whether the next stream has a range, and the ends of this.
use lib.IntN.{ℤ}
use Prim.Native.Nat.{ℕ}
use lib.ListN.{length}
use Rattle.num_bytes.specs.Choice.{pick}
use Rattle.plant_def.specs.declared.Stream.{Stream}
use Rattle.num_lent.proofs.Handing.{Handing}
use Rattle.plant_lent.proofs.put_ranges.Given as goal

abbrev pub told : Stream → ℕ
told s = pick {A = ℕ} s.ranged 1 0

abbrev pub lowest : Stream → ℤ
lowest s = s.low

abbrev pub highest : Stream → ℤ
highest s = s.high

abbrev pub invariant-loop-k : goal.invariant-loop-k
invariant-loop-k l =
    Handing told l.s-items (length l.s-items) l.initial.ranged l.ranged l.k × Handing lowest l.s-items (length l.s-items) l.initial.low l.low l.k × Handing highest l.s-items (length l.s-items) l.initial.high l.high l.k

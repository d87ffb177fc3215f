-- The range of a stream as it is held: what the laws ask of it.
use mathlib.Core.Path.{◌≡◌}
use mathlib.Core.Bool.{false}
use Prim.Native.Nat.{ℕ, ◌+◌, ◌≤◌, ◌<◌}
use native.Mathlib.Omega.{arith}
use Rattle.num_bytes.proofs.Tests.{by_cases}
use Rattle.plant_def.specs.declared.Stream.{Stream}
use Rattle.plant_def.specs.Plants.{limited}
use Rattle.plant_def.specs.Within.{WithinStream}
use Rattle.solve_def.specs.Sizes.{flow_shift, most_flow, most_range}
use Rattle.solve_def.specs.Held.{low_of, high_of}
use Rattle.solve_def.proofs.Bounds.{unlimited, low_free, high_free, low_within, high_within, low_high, high_most}

-- A range is of size most_range at most; a stream without one, whose low is held as 0, has all that can be held.
pub record Ranged (s : Stream) : Type 0 where
  pub ordered : low_of s ≤ high_of s
  pub most : high_of s ≤ most_flow
  pub sized : 0 < low_of s → (flow_shift ≤ low_of s + most_range) × (high_of s ≤ flow_shift + most_range)
  pub wide : low_of s ≡ 0 → high_of s ≡ most_flow
  pub free : s.metered ≡ false → low_of s ≡ 0

-- The range of a stream that is read is such.
pub ranged : {n : ℕ} (s : Stream) → WithinStream n s → Ranged s
ranged s w = record {
  ordered = low_high s w;
  most = high_most s w;
  sized = λ l. by_cases (limited s) (λ e. ((low_within s w e).1, (high_within s w e).0)) (λ e. absurd (omega (arith, low_free s e)));
  wide = λ z. by_cases (limited s) (λ e. absurd (omega (arith, (low_within s w e).1))) (λ e. high_free s e);
  free = λ m. low_free s (unlimited s m);
}

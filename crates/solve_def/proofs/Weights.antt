-- Readings and weights as they are held: what the code's conversions and products come to.
use mathlib.Core.Path.{◌≡◌, ap}
use lib.IntN.{ℤ, pos, negsuc, ◌+ℤ◌}
use mathlib.Core.Bool.{true}
use Prim.Native.Nat.{ℕ, suc, ◌*◌, ◌≤◌}
use native.Mathlib.Nat.{mul-le-mul}
use native.Mathlib.Omega.{arith}
use mir.Val.{SFits}
use mir.Syntax.{w32, w64}
use borrow.Author.Rules.{sfits_of}
use borrow.Author.Tests.{le-ltb}
use Rattle.num_bytes.proofs.Tests.{picked}
use Rattle.plant_def.specs.declared.Stream.{Stream}
use Rattle.plant_def.specs.Limits.{max_weight}
use Rattle.plant_def.specs.Within.{WithinStream}
use Rattle.flow_def.specs.Certificate.{weight_of}
use Rattle.solve_def.specs.Sizes.{flow_shift, most_flow, most_pull}
use Rattle.solve_def.specs.Held.{shifted}

-- A stream's weight is in range, and not 0 where it is metered.
pub weight_most : {n : ℕ} (s : Stream) → WithinStream n s → weight_of s ≤ max_weight
weight_most s w = picked (λ (x : ℕ). x ≤ max_weight) s.metered s.weight 0 w.light (λ m. omega arith)

-- A metered stream weighs something.
pub weight_least : {n : ℕ} (s : Stream) → WithinStream n s → s.metered ≡ true → 1 ≤ weight_of s
weight_least s w m = rw m (w.weighed m)

-- A 32-bit reading in 64 bits, and shifted.
pub wide : (z : ℤ) → SFits w32 z → SFits w64 z
wide z f = sfits_of (omega (arith, f.sfits))

-- A reading and the shift sum to the held reading.
pub shift_sum : (z : ℤ) → SFits w32 z → z +ℤ pos flow_shift ≡ pos (shifted z)
shift_sum (pos a) f = ap pos (omega arith)
shift_sum (negsuc a) f = rw (le-ltb flow_shift (suc a) (omega (arith, f.sfits)))

-- A held reading can be held.
pub shifted_most : (z : ℤ) → SFits w32 z → shifted z ≤ most_flow
shifted_most (pos a) f = omega (arith, f.sfits)
shifted_most (negsuc a) f = omega arith

-- And fits 64 bits.
pub shifted_fits : (z : ℤ) → SFits w32 z → SFits w64 (pos (shifted z))
shifted_fits z f = let b : shifted z ≤ most_flow = shifted_most z f in sfits_of (omega arith)

-- Weight times a held amount.
pub pull_most : (w x : ℕ) → w ≤ max_weight → x ≤ most_flow → w * x ≤ most_pull
pull_most w x hw hx = mul-le-mul hw hx

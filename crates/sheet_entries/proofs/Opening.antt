-- The flows that the solver holds, opened.
use mathlib.Core.Path.{◌≡◌}
use lib.IntN.{ℤ, pos, negsuc, ◌-ℤ◌}
use Prim.Native.Nat.{ℕ, ◌+◌, ◌^◌, ◌≤◌, ◌<◌}
use native.Mathlib.Omega.{arith}
use mir.Syntax.{w64}
use mir.Val.{SFits, to_z, hbits}
use mir.Facts.{to_z_pos}
use borrow.Author.Rules.{sfits_of}
use Rattle.num_bytes.proofs.Integers.{up, dn}
use Rattle.solve_def.specs.Sizes.{flow_shift, most_flow}
use Rattle.solve_def.specs.Held.{unshifted}
use Rattle.solve_def.proofs.Amounts.{unshifted_val}

-- A held amount, the shift taken away, is the amount.
pub opened_here : (x : ℕ) → x ≤ most_flow → to_z w64 x -ℤ to_z w64 flow_shift ≡ unshifted x
unfolding unshifted
opened_here x h = let l : x < 2 ^ hbits w64 = omega arith in rw (to_z_pos w64 l)

-- An amount that may be held, opened, fits 64 bits.
pub opened_fits : (x : ℕ) → x ≤ most_flow → SFits w64 (unshifted x)
opened_fits x h = go (unshifted x) (unshifted_val x)
  where
    go : (z : ℤ) → up z + flow_shift ≡ x + dn z → SFits w64 z
    go (pos a) v = sfits_of (omega arith)
    go (negsuc a) v = sfits_of (omega arith)

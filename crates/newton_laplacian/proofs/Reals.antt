-- Whole numbers that are exact as real numbers.
use mathlib.Core.Path.{◌≡◌, sym, subst}
use Prim.Native.Nat.{ℕ, ◌≤◌, ◌^◌}
use native.Mathlib.Omega.{arith}
use borrow.Author.Tests.{le-leb}
use lib.Dec.{T}
use lib.IntN.{pos}
use lib.Ieee.{binary64, prec, in_float}
use mir.Syntax.{w64}
use mir.Val.{to_z}
use mir.ValLaws.{to_z_pos}

-- The greatest of them, 2^53.
abbrev pub exact : ℕ
exact = 9007199254740992

-- Such a number is itself as a signed one,
pub whole_is : (n : ℕ) → n ≤ exact → to_z w64 n ≡ pos n
whole_is n h = to_z_pos w64 n (omega arith)

-- and a float of 64 bits holds it.
pub whole_in : (n : ℕ) → n ≤ exact → T (in_float binary64 (to_z w64 n))
unfolding in_float
whole_in n h = rw (whole_is n h) (subst T (sym (le-leb n (2 ^ prec binary64) h)) tt)

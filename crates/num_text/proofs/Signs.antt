-- A signed word in decimal, by its sign and its size.
use mathlib.Core.Path.{◌≡◌, sym, ap, ◌∙◌}
use mathlib.Core.Bool.{false}
use mathlib.Core.List.{◌++◌}
use lib.IntN.{ℤ, pos, nat_abs}
use lib.Signed.{le_z}
use Prim.Native.Nat.{ℕ}
use mir.Syntax.{w64}
use mir.Val.{to_z, of_z, SFits}
use mir.Facts.{to_z-of_z}
use Rattle.num_bytes.proofs.Complement.{under_zero}
use Rattle.num_text.specs.Numerals.{text, decimal, signed_decimal}

module _ (z : ℤ) (s : ℕ) (f : SFits w64 z) (e : s ≡ nat_abs (to_z w64 (of_z w64 z))) where
  -- Below zero: a minus, and its size.
  pub signed_under : le_z (pos 0) (to_z w64 (of_z w64 z)) ≡ false → signed_decimal z ≡ text "-" ++ decimal s
  signed_under t =
      let k = under_zero w64 z f t in
      ap signed_decimal k.1 ∙ ap (λ (n : ℕ). text "-" ++ decimal n) (sym (e ∙ ap nat_abs (to_z-of_z f ∙ k.1)))

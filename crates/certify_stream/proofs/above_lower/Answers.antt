-- The bound moved to the other side.
use mathlib.Core.Path.{◌∙◌, ap₂}
use lib.IntN.{ℤ, pos, ◌*ℤ◌}
use lib.Signed.{le_z}
use Prim.Native.Nat.{◌*◌}
use mir.Syntax.{w64}
use mir.ValLaws.{to_z-of_z}
use Rattle.certify_stream.proofs.Widths as W
use Rattle.certify_stream.proofs.above_lower.Goals as goal

pub returns : goal.returns
returns c =
    let a = c.args in
    c.multiple_within.ensures
    ∙ ap₂ (λ (x y : ℤ). le_z (pos (2 * a.weight) *ℤ x) y) (to_z-of_z w64 a.d c.ranges.d)
    (W.sum_is a.weight a.difference c.requires.1 c.ranges.difference c.requires.2)
    ∙ W.lower_by a.weight a.d a.difference

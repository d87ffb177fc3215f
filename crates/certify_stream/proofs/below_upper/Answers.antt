-- The bound turned round and moved to the other side.
use mathlib.Core.Path.{◌∙◌, ap₂}
use lib.IntN.{ℤ, pos, ◌*ℤ◌}
use lib.Signed.{le_z}
use Prim.Native.Nat.{◌*◌}
use Rattle.certify_stream.proofs.Widths as W
use Rattle.certify_stream.proofs.below_upper.Goals as goal

pub returns : goal.returns
returns c =
    let a = c.args in
    c.multiple_within.ensures
    ∙ ap₂ (λ (x y : ℤ). le_z (pos (2 * a.weight) *ℤ x) y) (W.turned_is a.d c.ranges.d c.requires.2)
    (W.rest_is a.weight a.difference c.requires.1 c.ranges.difference c.requires.3)
    ∙ W.upper_by a.weight a.d a.difference

-- The kind, then the number in the part behind it.
use native.Mathlib.Omega.{arith}
use mathlib.Core.Path.{ap, ◌∙◌}
use mathlib.Core.List.{[], ◌∷◌}
use lib.IntN.{ℤ}
use mir.Syntax.{w64}
use mir.Val.{to_z, of_z}
use mir.Facts.{to_z-of_z}
use Rattle.num_bytes.specs.Bytes.{put_be, raw, over}
use Rattle.num_bytes.proofs.Parts.{laid, lay}
use Rattle.sheet_write.proofs.put_flow.Goals as goal

pub returns : goal.returns
returns c =
    let a = c.args in
    let o = a.out.now in
    let kind = laid (a.kind ∷ []) o (omega arith) c.put_u8.ensures in
    let all = lay kind (put_be 8 (raw 8 (to_z w64 (of_z w64 a.flow)))) (omega arith) c.put_i64.ensures in
    all.bytes ∙ ap (λ (z : ℤ). over (a.kind ∷ put_be 8 (raw 8 z)) o) (to_z-of_z c.ranges.flow)

-- The kind, then the office and the number, each in the part behind it.
use native.Mathlib.Omega.{arith}
use mathlib.Core.List.{[], ◌∷◌}
use Rattle.num_bytes.specs.Bytes.{put_be}
use Rattle.num_bytes.proofs.Parts.{laid, lay}
use Rattle.sheet_def.specs.Totals.{total_kind}
use Rattle.sheet_write.proofs.put_number.Goals as goal

pub returns : goal.returns
returns c =
    let a = c.args in
    let kind = laid (total_kind ∷ []) a.out.now (omega arith) c.put_u8.ensures in
    let office = lay kind (a.office ∷ []) (omega arith) c.put_u8-2.ensures in
    (lay office (put_be 4 a.number) (omega arith) c.put_u32.ensures).bytes

-- By the kind of the class.
use mir.Facts.{to_z-of_z}
use Rattle.num_bytes.proofs.Parts.{put_as}
use Rattle.sheet_write.proofs.Records.{blank_as, known_as}
use Rattle.sheet_write.proofs.put_record.Goals as goal

pub returns-then-kind-eq-WITHHELD : goal.returns-then-kind-eq-WITHHELD
returns-then-kind-eq-WITHHELD c =
    let a = c.args in
    put_as (blank_as a.class _ c.kind_of-kind.ensures a.flow c.if-kind-eq-WITHHELD.true) c.put_u8.ensures

pub returns : goal.returns
returns c =
    let a = c.args in
    put_as (known_as a.class _ c.kind_of-kind.ensures a.flow _ (to_z-of_z c.ranges.flow) c.if-kind-eq-WITHHELD.false) c.put_flow.ensures

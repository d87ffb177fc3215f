-- Field by field.
use mathlib.Core.Path.{ap, ◌∙◌}
use lib.ListN.{get_or}
use Rattle.num_bytes.specs.Bytes.{be}
use Rattle.num_bytes.proofs.Parts.{part_is}
use Rattle.sheet_read.proofs.body_in.Goals as goal

pub returns : goal.returns
returns c =
    let a = c.args in
    let b = a.body.now in
    let n = c.get_u32-sheet.ensures in
    let k = c.get_u64-cost.ensures ∙ ap (be 0 8) (part_is 4 b) in
    λ i. record { kind = a.kind; office = a.office; sheet = n i; cost = k i; degrees = get_or b 12 0; verdict = get_or b 13 0 }

-- Field behind field.
use borrow.Author.Rules.{rules}
use native.Mathlib.Omega.{arith}
use mathlib.Core.List.{[], ◌∷◌}
use mir.Syntax.{w32}
use mir.Val.{SFits}
use mir.Facts.{to_z-of_z}
use Rattle.num_bytes.specs.Bytes.{put_be, raw}
use Rattle.num_bytes.proofs.Parts.{laid, lay}
use Rattle.plant_write.proofs.put_meter.Goals as goal
use Rattle.plant_write.proofs.put_meter.Goals.{After-put_u16, After-struct_told-1, Start}

-- The start, from the weight's bytes on.
abbrev began : After-put_u16 → Start
began c =
    c.before.before.before.before.before.before.before

reading_fits : (c : After-struct_told-1) → SFits w32 (began c.before.before.before.before.before).args.s.reading
reading_fits c = search rules

pub returns : goal.returns
returns c =
    let a = c.args in
    let s = a.s in
    let ends = laid (a.kind ∷ s.from ∷ s.to ∷ []) a.out.now (omega arith) c.put_ends.ensures in
    let weight = lay ends (put_be 2 s.weight) (omega arith) c.put_u16.ensures in
    (lay weight (put_be 4 (raw 4 s.reading)) (omega arith) (rw (to_z-of_z (reading_fits (goal.at.returns c).After-struct_told-1)) at c.put_i32.ensures)).bytes

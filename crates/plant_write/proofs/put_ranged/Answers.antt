-- Low and high behind the meter's bytes.
use borrow.Author.Rules.{rules}
use native.Mathlib.Omega.{arith}
use mathlib.Core.List.{◌∷◌}
use mir.Syntax.{w32}
use mir.Val.{SFits}
use mir.Facts.{to_z-of_z}
use Rattle.num_bytes.specs.Bytes.{put_be, raw}
use Rattle.num_bytes.proofs.Parts.{laid, lay}
use Rattle.plant_def.specs.Limits.{ranged_kind}
use Rattle.plant_def.specs.Files.{meter_bytes}
use Rattle.plant_write.proofs.put_ranged.Goals as goal
use Rattle.plant_write.proofs.put_ranged.Goals.{After-struct_told-1, After-struct_told-2-1}

low_fits : (c : After-struct_told-1) → SFits w32 c.args.s.low
low_fits c = search rules

high_fits : (c : After-struct_told-2-1) → SFits w32 c.args.s.high
high_fits c = search rules

pub returns : goal.returns
returns c =
    let a = c.args in
    let s = a.s in
    let meter = laid (ranged_kind ∷ meter_bytes s) a.out.now (omega arith) c.put_meter.ensures in
    let low = lay meter (put_be 4 (raw 4 s.low)) (omega arith) (rw (to_z-of_z (low_fits (goal.at.returns c).After-struct_told-1)) at c.put_i32.ensures) in
    (lay low (put_be 4 (raw 4 s.high)) (omega arith) (rw (to_z-of_z (high_fits (goal.at.returns c).After-struct_told-2-1)) at c.put_i32-2.ensures)).bytes

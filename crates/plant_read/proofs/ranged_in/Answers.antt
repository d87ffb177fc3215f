-- A metered stream's fields, then low and high.
use borrow.Author.Rules.{rules}
use mathlib.Core.Path.{ap, ◌∙◌}
use mathlib.Core.Bool.{true}
use mathlib.Core.List.{List}
use Prim.Native.Nat.{ℕ}
use mir.Syntax.{w32}
use mir.Val.{SFits}
use mir.Facts.{to_z-of_z}
use Rattle.num_bytes.specs.Bytes.{be, signed}
use Rattle.num_bytes.proofs.Parts.{part_is}
use Rattle.plant_def.specs.declared.Stream.{Stream}
use Rattle.plant_read.proofs.ranged_in.Goals as goal

pub returns : goal.returns
returns c =
    let b = c.args.b.now in
    let s = c.metered_in.ensures in
    let rf : SFits w32 c.metered_in.result.reading = search rules in
    let lf : SFits w32 c.get_i32.result = record { sfits = c.get_i32.type_inv } in
    let hf : SFits w32 c.get_i32-2.result = record { sfits = c.get_i32-2.type_inv } in
    let r = to_z-of_z rf ∙ ap (λ (x : Stream). x.reading) s in
    let l = to_z-of_z lf ∙ c.get_i32.ensures ∙ ap (λ (t : List ℕ). signed 4 (be 0 4 t)) (part_is 8 b) in
    let h = to_z-of_z hf ∙ c.get_i32-2.ensures ∙ ap (λ (t : List ℕ). signed 4 (be 0 4 t)) (part_is 12 b) in
    λ i. record { from = (s i).from; to = (s i).to; metered = (s i).metered; weight = (s i).weight; reading = r i; ranged = true; low = l i; high = h i }

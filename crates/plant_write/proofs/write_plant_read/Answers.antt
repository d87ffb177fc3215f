-- The plant writer writes what was read.
use mathlib.Core.Path.{refl, sym, ap, ◌∙◌}
use Rattle.plant_def.specs.Results.{Read}
use Rattle.plant_def.specs.Views.{read_as, done_as}
use Rattle.plant_def.proofs.Promise.{file_good}
use Rattle.plant_write.proofs.write_plant_read.Goals as goal

pub returns : goal.returns
returns c g d e =
    let y : Read = record { number = 0; plant = c.in_ok-read.field-0 } in
    file_good c.args.out.now c.write_plant.new.file y (done_as c.write_plant.result)
    c.if-out-lt-LONGEST_FILE.false refl c.write_plant.ensures g d (sym (ap read_as c.in_ok-read.was) ∙ e)

-- The plant writer writes what was read.
use mathlib.Core.Path.{sym, subst}
use Rattle.plant_def.specs.Results.{Done}
use Rattle.plant_def.specs.Says.{WriteSays}
use Rattle.plant_def.proofs.Promise.{file_good}
use Rattle.plant_write.specs.Told.{read_told, done_told}
use Rattle.plant_write.proofs.numbered.write_read.Goals as goal

pub returns : goal.returns
returns c g d e =
    let a = c.args in
    let out = c.write_plant.new.file in
    file_good a.out.now out (read_told a.read) (done_told c.by_number.result) c.if-out-lt-LONGEST_FILE.false c.if-read-ne0.false
    (subst (λ (r : Done). WriteSays a.read.plant a.out.now out r) (sym c.by_number.ensures) c.write_plant.ensures) g d e

-- What was read and moved is written.
use Rattle.plant_def.specs.Files.{read_plant}
use Rattle.ranged_def.specs.Moves.{from_ranged}
use Rattle.ranged_def.proofs.Faultless.{from_good}
use Rattle.ranged_call.proofs.from_ranged.Goals as goal

pub returns : goal.returns
returns c =
    let file = c.args.file.now in
    c.write_plant_read.ensures (from_ranged (read_plant file)) (from_good file) c.read_home.ensures

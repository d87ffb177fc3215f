-- What was read and moved is written.
use Rattle.plant_def.specs.Files.{read_plant}
use Rattle.ranged_def.specs.Moves.{to_ranged}
use Rattle.ranged_def.proofs.Faultless.{to_good}
use Rattle.ranged_call.proofs.to_ranged.Goals as goal

pub returns : goal.returns
returns c =
    let file = c.args.file.now in
    c.write_plant_read.ensures (to_ranged (read_plant file)) (to_good file) c.read_forward.ensures

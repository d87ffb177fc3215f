-- The solver is called on a plant that the reader accepted.
use mathlib.Core.Path.{refl}
use Rattle.std.specs.Prelude.{Ok}
use Rattle.plant_def.specs.Views.{read_as}
use Rattle.plant_def.proofs.Arrayed.{within_of}
use Rattle.plant_def.proofs.Found.{plant_accepted}
use Rattle.solve_def.proofs.Theorem as Theorem
use Rattle.vectors.proofs.solving.solve_file.Goals as goal

pub solve_from-solved-requires : goal.solve_from-solved-requires
solve_from-solved-requires c =
    let a = plant_accepted c.args.file.now (read_as (Ok c.in-Ok.p)) c.in-Ok.ensures refl in
    (a, rw c.no_hint.ensures (Theorem.unhinted _ (within_of _ a)))

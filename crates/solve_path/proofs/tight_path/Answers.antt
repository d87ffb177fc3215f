-- `solve_path::tight_path` meets its contract: the walk comes to what the search comes to.
use Rattle.solve_arcs.proofs.Finding.{ways_of, path_linked}
use Rattle.solve_path.proofs.tight_path.Goals as goal

pub tight_walk-requires : goal.tight_walk-requires
tight_walk-requires c =
    let w = c.requires.0.1 in
    (ways_of _ _ _ _ _ _ _ _ _ w.laid w.margined w.walkable, c.requires.1, c.requires.2)

pub returns : goal.returns
returns c = λ skip w.
    path_linked _ _ _ c.args.v skip _ c.requires.2 c.requires.1 w _ _ c.tight_walk.ensures

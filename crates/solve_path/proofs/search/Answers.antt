-- `solve_path::search` meets its contract: the walk comes to what the search comes to.
use Rattle.solve_arcs.proofs.Finding.{ways_of, search_linked}
use Rattle.solve_path.proofs.search.Goals as goal
use Rattle.solve_path.proofs.search.Goals.{then-w, else-w}

pub walk-w-requires : goal.walk-w-requires
walk-w-requires c =
    let w = c.requires.0 in
    (ways_of _ _ _ _ _ _ _ _ _ w.laid w.margined w.walkable, c.requires.1)

pub returns : goal.returns
returns c = λ w.
    let e = search_linked _ _ _ c.args.nets.now _ _ c.requires.1 w _ c.walk-w.ensures in
    elim c.if-w.branch [
      | then-w o ↦ rw (o.potentials-is, o.lower.ensures, o.if-w.true) (rw o.if-w.true at e)
      | else-w o ↦ rw (o.potentials-is, o.if-w.false) (rw o.if-w.false at e)
    ]

-- `solve_forest::reach` meets its contract: one place more is reached, over one stream more.
use Rattle.std.proofs.Common.{rules}
use Rattle.solve_forest.proofs.Spanning.{spanning_room, spanning_grown, listed_grown}
use Rattle.solve_forest.proofs.reach.Goals as goal

pub bounds-forest-forest : goal.bounds-forest-forest
bounds-forest-forest c = let h = spanning_room c.requires.0 c.args.e c.requires.1 c.if-reached-e.false in search rules

pub bounds-forest-forest-2 : goal.bounds-forest-forest-2
bounds-forest-forest-2 c = let h = spanning_room c.requires.0 c.args.e c.requires.1 c.if-reached-e.false in search rules

pub overflow_add-forest : goal.overflow_add-forest
overflow_add-forest c = let h = spanning_room c.requires.0 c.args.e c.requires.1 c.if-reached-e.false in search rules

pub returns : goal.returns
returns c = (
  spanning_grown c.requires.0 c.args.e c.requires.1 c.if-reached-e.false c.args.i c.args.inwards,
  listed_grown c.requires.0 c.args.e c.requires.1 c.if-reached-e.false c.args.i,
)

-- `solve_forest::along` meets its contract: what is reached is reached over stream i, which is unmetered.
use Rattle.solve_forest.proofs.along.Goals as goal

pub returns-then-reached-u : goal.returns-then-reached-u
returns-then-reached-u c = c.reach.ensures

pub returns-then-reached-v : goal.returns-then-reached-v
returns-then-reached-v c = c.reach-then-reached-v.ensures

pub returns-else-reached-v : goal.returns-else-reached-v
returns-else-reached-v c = (c.requires.0, λ ss n u h. h)

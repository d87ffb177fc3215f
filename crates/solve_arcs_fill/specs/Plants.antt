-- The plant that arcs and rows are of.
use Rattle.std.specs.Prelude.{List, ℕ}
use Rattle.plant_def.specs.declared.Plant.{Plant}
use Rattle.plant_def.specs.Within.{Accepted}
use Rattle.solve_arcs.specs.ArcNeeds.{Laid}

-- An accepted plant, and the arcs and rows of its streams.
pub record LaidOf (p : Plant) (ls rs : List ℕ) : Type 0 where
  pub accepted : Accepted p
  pub laid : Laid p.streams p.count ls rs

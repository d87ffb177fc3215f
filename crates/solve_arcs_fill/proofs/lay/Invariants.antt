-- `solve_arcs_fill::lay` meets its contract: the first i streams are in the lists, and have their rows.
use mathlib.Core.Path.{◌≡◌}
use Rattle.solve_arcs.specs.Cells.{count_of}
use Rattle.solve_arcs.specs.ArcNeeds.{Listed, Rowed}
use Rattle.solve_arcs_fill.specs.Puts.{starts_in, ends_in}
use Rattle.solve_arcs_fill.proofs.lay.Given as goal

abbrev pub invariant-loop-i : goal.invariant-loop-i
invariant-loop-i l = Listed l.i (starts_in l.streams l.count) (ends_in l.streams l.count) l.arcs × (count_of l.arcs ≡ l.count) × Rowed l.streams l.i l.rows

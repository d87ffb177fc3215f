-- `solve_ties::tie_all` meets its contract: the first i streams are passed, and left alone.
use mathlib.Core.Path.{◌≡◌}
use lib.ListN.{take}
use Rattle.solve_def.specs.Model.{ties_to}
use Rattle.solve_arcs.specs.Cells.{count_of}
use Rattle.solve_arcs.specs.ArcNeeds.{Margined}
use Rattle.solve_ties.specs.Evens.{Tieable}
use Rattle.solve_ties.proofs.tie_all.Given as goal

abbrev pub invariant-loop-i : goal.invariant-loop-i
invariant-loop-i l =
    ((w : Tieable l.arcs l.rows l.potentials 0 l.initial.flows) → l.flows ≡ ties_to (take w.n w.streams) l.potentials l.i l.initial.flows) × Margined (count_of l.arcs) l.rows l.flows 1 l.i l.margins

-- Streams that arcs and rows are of, and a state that is settled at a hint.
use Rattle.std.specs.Prelude.{List, ℕ, take}
use Rattle.solve_def.specs.declared.State.{State}
use Rattle.solve_def.specs.SolverNeeds.{AtHint}
use Rattle.solve_arcs.specs.ArcNeeds.{Laying}

-- What finishing needs: streams that arcs and rows are of, and a state that is settled at a hint.
pub record Finishable (ls rs : List ℕ) (st : State) : Type 0 where
  pub laying : Laying ls rs
  pub at_hint : AtHint (take laying.n laying.streams) st

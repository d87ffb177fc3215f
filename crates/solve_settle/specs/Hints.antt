-- Streams that arcs and rows are of, and a hint at which their amounts can be settled.
use Rattle.std.specs.Prelude.{◌≡◌, List, ℕ, take}
use Rattle.solve_def.specs.declared.Hint.{Hint}
use Rattle.solve_def.specs.declared.State.{State}
use Rattle.solve_def.specs.Model.{settled}
use Rattle.solve_def.specs.SolverNeeds.{Ready}
use Rattle.solve_arcs.specs.ArcNeeds.{Laying}

-- A hint by its parts.
abbrev pub hint_of : List ℕ → List ℕ → Hint
hint_of xs ps = record { flows = xs; potentials = ps }

-- What settling needs.
pub record Hinting (ls rs : List ℕ) (h : Hint) : Type 0 where
  pub laying : Laying ls rs
  pub ready : Ready (take laying.n laying.streams) h

-- What is settled at it, of any streams that arcs and rows are of.
abbrev pub Settling : List ℕ → List ℕ → Hint → State → Type 0
Settling ls rs h st = (w : Laying ls rs) → st ≡ settled (take w.n w.streams) h

-- What the solver hands over from amounts settled at a hint.
use Rattle.std.specs.Prelude.{◌≡◌, List, ℕ}
use Rattle.plant_def.specs.declared.Plant.{Plant}
use Rattle.plant_def.specs.Says.{plant_of}
use Rattle.solve_def.specs.declared.State.{State}
use Rattle.solve_def.specs.declared.Solved.{Solved}
use Rattle.solve_def.specs.Promise.{Right}
use Rattle.solve_def.specs.Few.{Effort}
use Rattle.solve_def.specs.SolverNeeds.{AtHint}
use Rattle.solve_arcs_fill.specs.Plants.{LaidOf}

-- Of any plant that arcs and rows are of, what is handed over is right, and its improvements are counted.
abbrev pub Answers : List ℕ → List ℕ → ℕ → State → Solved → Type 0
Answers ls rs units st r =
    (p : Plant) → LaidOf p ls rs → p.units ≡ units → AtHint (plant_of p).streams st → Right p r × Effort (plant_of p).streams st r.made

-- What one pass over a plant's streams finds.
use Rattle.std.specs.Prelude.{◌≡◌, List, map, ℕ}
use Rattle.plant_def.specs.declared.Plant.{Plant}
use Rattle.plant_def.specs.Says.{plant_of}
use Rattle.flow_def.specs.Calls.{classes_of}
use Rattle.flow_def.specs.Shown.{adjusted}
use Rattle.solve_def.specs.Held.{unshifted}
use Rattle.sheet_def.specs.declared.Entry.{Entry}
use Rattle.sheet_def.specs.Calls.{entries_of}

-- The entries of all streams with the amounts that are held, and the summed weights of the adjusted ones.
abbrev pub EntersAs : Plant → List ℕ → List Entry → ℕ → Type 0
EntersAs p held es q = (es ≡ entries_of (classes_of (plant_of p)) (map unshifted held)) × (q ≡ adjusted (plant_of p))

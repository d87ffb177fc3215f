-- The plant of the definition's worked example.
use mathlib.Core.Bool.{true, false}
use mathlib.Core.List.{[], ◌∷◌}
use lib.IntN.{pos}
use Rattle.plant_def.specs.Plants.{Plant, unmetered}

-- Two units, a metered stream from the outside to the first, two unmetered ones to the second, and a metered one from there to the outside.
abbrev pub sample_plant : Plant
sample_plant =
    record {
      units = 2;
      streams =
          record { from = 0; to = 1; metered = true; weight = 10; reading = pos 100; ranged = false; low = pos 0; high = pos 0 }
          ∷ unmetered 1 2
          ∷ unmetered 1 2
          ∷ record { from = 2; to = 0; metered = true; weight = 10; reading = pos 98; ranged = false; low = pos 0; high = pos 0 }
          ∷ [];
    }

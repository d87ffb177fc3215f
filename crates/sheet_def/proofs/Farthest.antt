-- The bound of the desk tool is sharp, by computing: in 100, out 103. In fractions 101 1/2 each; the sheet has 101 and 101.
use mathlib.Core.Path.{refl}
use mathlib.Core.Bool.{true, false}
use mathlib.Core.List.{[], ◌∷◌}
use lib.IntN.{pos}
use Rattle.plant_def.specs.Plants.{Plant}
use Rattle.flow_def.proofs.Known.{exact_least}
use Rattle.flow_def.specs.declared.Class.TheVariants.{Adjusted}
use Rattle.sheet_def.specs.Totals.{total_kind}
use Rattle.sheet_def.specs.Sheets.{SheetParts}
use Rattle.sheet_def.specs.Table.{tie, Farthest}

tie_plant : Plant
tie_plant =
    record {
      units = 1;
      streams =
          record { from = 0; to = 1; metered = true; weight = 10; reading = pos 100; ranged = false; low = pos 0; high = pos 0 }
          ∷ record { from = 1; to = 0; metered = true; weight = 10; reading = pos 103; ranged = false; low = pos 0; high = pos 0 }
          ∷ [];
    }

tie_sheet : SheetParts
tie_sheet =
    record {
      streams = record { class = Adjusted; flow = pos 101 } ∷ record { class = Adjusted; flow = pos 101 } ∷ [];
      total = record { kind = total_kind; office = 0; sheet = 1; cost = 50; degrees = 1; verdict = 0 };
    }

-- The tie's sheet and its flow in fractions differ by as much as the bound allows.
pub tie_farthest : Farthest tie 2 (pos 203 ∷ pos 203 ∷ [])
unfolding tie_plant tie_sheet
tie_farthest = record {
  plant = tie_plant;
  listed = refl;
  least = exact_least 2 tie_plant (pos 203 ∷ pos 203 ∷ []) (pos 0 ∷ pos 60 ∷ []) refl;
  sheet = tie_sheet;
  read = refl;
  met = refl;
}

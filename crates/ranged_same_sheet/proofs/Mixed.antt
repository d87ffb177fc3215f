-- The examples of mixed plants, by computed tests: potentials certify each flow.
use mathlib.Core.Path.{◌≡◌, refl, ap}
use mathlib.Core.Bool.{true}
use mathlib.Core.List.{List, [], ◌∷◌}
use lib.IntN.{pos, negsuc}
use Prim.Native.Nat.{ℕ}
use native.Mathlib.Omega.{arith}
use lib.ListN.{get_or}
use Rattle.plant_def.specs.declared.Stream.{Stream}
use Rattle.plant_def.specs.Files.{read_plant}
use Rattle.sheet_def.specs.Table.{full_unit}
use Rattle.sheet_def.specs.Balances.{balance_of}
use Rattle.sheet_def.proofs.Table.{shows_right, unit_full, refuses_right}
use Rattle.ranged_def.specs.Moves.{widest_low, widest_high}
use Rattle.ranged_same_sheet.specs.Mixed.{mixed, mixed_moved, filling, filling_moved, Mixed}

-- The plant that is full.
full_streams : List Stream
full_streams =
    record { from = 0; to = 1; metered = true; weight = 1; reading = pos 0; ranged = true; low = pos 1200000000; high = pos 2000000000 }
    ∷ record { from = 0; to = 1; metered = true; weight = 1; reading = pos 0; ranged = true; low = pos 1200000000; high = pos 2000000000 }
    ∷ record { from = 1; to = 0; metered = true; weight = 1; reading = pos 0; ranged = true; low = widest_low; high = widest_high }
    ∷ []

-- The second number of the two sheets ends in another byte.
apart : mixed.sheet ≡ mixed_moved.sheet → ⊥
apart e = let z : ◌≡◌ {A = ℕ} 64 0 = ap (λ (l : List ℕ). get_or l 17 0) e in omega arith

-- Both examples hold: another sheet in the ranged form, and refusal 19.
pub examples : Mixed
unfolding balance_of full_streams
examples = record {
  another = refl;
  before = shows_right mixed (pos 0 ∷ negsuc 4001999999 ∷ []) (read_plant mixed.file) refl refl;
  after = shows_right mixed_moved (pos 0 ∷ negsuc 6001999999 ∷ []) (read_plant mixed_moved.file) refl refl;
  differ = apart;
  full = refl;
  shown = shows_right filling (pos 0 ∷ negsuc 4799999999 ∷ []) (read_plant filling.file) refl refl;
  refused = refuses_right filling_moved (record { units = 1; streams = full_streams }) full_unit refl (unit_full full_streams refl refl);
}

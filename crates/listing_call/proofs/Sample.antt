-- The listing of the definition's plant, proved by computing: potentials certify the flow.
use mathlib.Core.Path.{refl}
use mathlib.Core.List.{List, [], ◌∷◌}
use lib.IntN.{ℤ, pos, negsuc}
use Rattle.plant_def.proofs.Sample.{sample_plant}
use Rattle.flow_def.proofs.Certified.{certified_cheapest}
use Rattle.sheet_def.specs.Balances.{balance_of}
use Rattle.num_text.specs.Numerals.{decimal}
use Rattle.listing_call.specs.Sample.{Sample}

flow : List ℤ
flow = pos 99 ∷ pos 99 ∷ pos 0 ∷ pos 99 ∷ []

-- The listing of the definition's plant.
pub sample : Sample
unfolding flow balance_of decimal
sample = (sample_plant, flow, refl, certified_cheapest sample_plant flow (pos 0 ∷ negsuc 19 ∷ negsuc 19 ∷ []) refl, refl)

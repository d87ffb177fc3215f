-- What the parts of the search and of the augmentation require: ranges only.
use Rattle.std.specs.Prelude.{◌≡◌, true, List, ℕ, ◌+◌, ◌*◌, ◌≤◌, ◌<◌, length, get_or, take}
use Rattle.plant_def.specs.declared.Stream.{Stream}
use Rattle.plant_def.specs.Limits.{places, max_units, max_streams}
use Rattle.plant_def.specs.Within.{Accepted}
use Rattle.solve_def.specs.Sizes.{flow_shift, most_flow, potential_shift, potential_floor, most_step, most_amount}
use Rattle.flow_def.specs.Flows.{stream_at}
use Rattle.solve_def.specs.Held.{AllStepsMet}

-- An array of streams of which the first n are in use, within the limits of a plant, whatever its number of units.
abbrev pub Network : List Stream → ℕ → Type 0
Network streams n = Accepted (record { units = max_units; count = n; streams = streams })

-- Potentials that may be held.
abbrev pub Potentials : List ℕ → Type 0
Potentials ps = (u : ℕ) → u < places → get_or ps u 0 ≤ potential_shift

-- A held amount of size b at most.
abbrev pub SizeWithin : ℕ → ℕ → Type 0
SizeWithin b x = (x ≤ flow_shift + b) × (flow_shift ≤ x + b)

-- Every metered amount is of size most_amount at most.
abbrev pub Moderate : List Stream → List ℕ → Type 0
Moderate ss xs = (k : ℕ) → k < length ss → (stream_at ss k).metered ≡ true → SizeWithin most_amount (get_or xs k 0)

-- Potentials from potential_floor up.
abbrev pub Floored : List ℕ → Type 0
Floored ps = (u : ℕ) → u < places → potential_floor ≤ get_or ps u 0

-- What a search works on.
pub record Searchable (streams : List Stream) (n : ℕ) (xs ps : List ℕ) (d : ℕ) : Type 0 where
  pub network : Network streams n
  pub step : d ≤ most_step
  pub amounts : (k : ℕ) → k < n → get_or xs k 0 ≤ most_flow
  pub potentials : Potentials ps

-- And where the step condition holds, of amounts that are not too large and potentials that are not too low.
pub record Walkable (streams : List Stream) (n : ℕ) (xs ps : List ℕ) (d : ℕ) : Type 0 where
  pub searchable : Searchable streams n xs ps d
  pub met : AllStepsMet (take n streams) xs ps d
  pub moderate : Moderate (take n streams) xs
  pub floored : Floored ps

-- Remembered streams: len of them, among the first n.
pub record Trail (via : List ℕ) (n len : ℕ) : Type 0 where
  pub short : len ≤ places
  pub within : (k : ℕ) → k < len → get_or via k 0 < n

-- Amounts that can rise and fall by j steps.
pub record Roomy (xs : List ℕ) (j : ℕ) : Type 0 where
  pub long : length xs ≡ max_streams
  pub low : (k : ℕ) → k < max_streams → most_step * j ≤ get_or xs k 0
  pub high : (k : ℕ) → k < max_streams → get_or xs k 0 + most_step * j ≤ most_flow

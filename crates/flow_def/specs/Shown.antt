-- What a sheet shows: a number exactly where one is forced, a blank exactly elsewhere, and a cost next to the least.
use Rattle.std.specs.Prelude.{◌≡◌, ◌↔◌, true, false, List, ℤ, ℕ, zero, suc, ◌+◌, ◌*◌, ◌≤◌, ◌<◌, length}
use Rattle.plant_def.specs.declared.Stream.{Stream}
use Rattle.plant_def.specs.Plants.{Plant}
use Rattle.plant_def.specs.Files.{got, read_plant}
use Rattle.flow_def.specs.declared.Class.{Class}
use Rattle.flow_def.specs.declared.Class.TheVariants.{Adjusted, AsRead, Given, Withheld}
use Rattle.flow_def.specs.Flows.{stream_at, amount_at, balanced, allowed_over, allowed, cost, cost_over, metered_of, Agree, Cheapest, nearest}
use Rattle.flow_def.specs.Classes.{class_of, given_of}

-- A stream's weight where it is adjusted.
abbrev pub adjusted_weight : Class → Stream → ℕ
adjusted_weight Adjusted s = s.weight
adjusted_weight AsRead s = 0
adjusted_weight Given s = 0
adjusted_weight Withheld s = 0

-- The summed weights of the adjusted streams among the first k.
abbrev pub adjusted_to : Plant → ℕ → ℕ
adjusted_to p zero = 0
adjusted_to p (suc k) = adjusted_weight (class_of p k) (stream_at p.streams k) + adjusted_to p k

-- The summed weights of all adjusted streams.
abbrev pub adjusted : Plant → ℕ
adjusted p = adjusted_to p (length p.streams)

-- Stream i is listed, and unmetered.
pub record Unmetered (p : Plant) (i : ℕ) : Type 0 where
  pub listed : i < length p.streams
  pub unmetered : (stream_at p.streams i).metered ≡ false

-- What the sheet of an accepted plant shows, over all its balanced flows.
pub record Shown (p : Plant) : Type 0 where
  -- There is a cheapest flow, and on the metered streams only one.
  pub some : (xs : List ℤ) × Cheapest p xs
  pub one : (xs ys : List ℤ) → Cheapest p xs → Cheapest p ys → metered_of p.streams xs ≡ metered_of p.streams ys
  -- R: its flow is the nearest value in range to its reading.
  pub as_read : (xs : List ℤ) (i : ℕ) → Cheapest p xs → i < length p.streams → class_of p i ≡ AsRead
      → amount_at xs i ≡ nearest (stream_at p.streams i)
  -- Of an unmetered stream: a number (class G) exactly when every two flows that agree on all metered streams agree on it.
  pub number : (i : ℕ) → Unmetered p i
      → (class_of p i ≡ Given) ↔ ((ys zs : List ℤ) → Agree p ys zs → amount_at ys i ≡ amount_at zs i)
  -- A blank (class W) exactly when some two differ.
  pub blank : (i : ℕ) → Unmetered p i
      → (class_of p i ≡ Withheld) ↔ ((ys : List ℤ) × (zs : List ℤ) × Agree p ys zs × (amount_at ys i ≡ amount_at zs i → ⊥))
  -- The number of a G stream is its flow in every balanced flow with the same metered flows.
  pub its_number : (xs : List ℤ) (i : ℕ) → balanced p xs ≡ true → i < length p.streams → class_of p i ≡ Given
      → given_of p i xs ≡ amount_at xs i
  -- No flow in fractions, within all ranges, undercuts the cheapest by more than a quarter of the adjusted streams' weights.
  pub near : (xs ys : List ℤ) (d : ℕ) → Cheapest p xs → 1 ≤ d → allowed_over d p ys ≡ true
      → 4 * (d * d) * cost p.streams xs ≤ 4 * cost_over d p.streams ys + d * d * adjusted p

-- Demand 3: of every accepted plant. One that is read, but has no balanced flow within all ranges, is not accepted.
abbrev pub Demand3 : Type 0
Demand3 = (file : List ℕ) (p : Plant) (ys : List ℤ) → read_plant file ≡ got p → allowed p ys ≡ true → Shown p

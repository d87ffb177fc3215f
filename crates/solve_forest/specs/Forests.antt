-- What is asked of a spanning forest: ranges, and that its streams are unmetered.
use Rattle.std.specs.Prelude.{◌≡◌, ℕ, ◌<◌, ◌≤◌, Bool, false, List, length, slice_index, slice_index_or}
use Rattle.plant_def.specs.declared.Stream.{Stream}
use Rattle.plant_def.specs.Limits.{places, max_units, max_streams}
use Rattle.plant_def.specs.Plants.{no_stream}
use Rattle.solve_forest.specs.declared.Forest.{Forest}
use Rattle.solve_def.specs.Counts.{count_places}
use Rattle.solve_arcs.specs.ArcNeeds.{Laying}

-- A forest of len streams, with as many places reached, at least.
pub record Spanning (reached : List Bool) (via : List ℕ) (into : List Bool) (len : ℕ) : Type 0 where
  pub reaches : length reached ≡ places
  pub vias : length via ≡ places
  pub intos : length into ≡ places
  pub few : len ≤ count_places max_units (λ u. slice_index_or reached u false)

-- Stream i is among the first n, and unmetered.
abbrev pub Unmetered : List Stream → ℕ → ℕ → Type 0
Unmetered streams n i = (i < n) × ((slice_index_or streams i no_stream).metered ≡ false)

-- A forest's streams are such.
abbrev pub Listed : List Stream → ℕ → List ℕ → ℕ → Type 0
Listed streams n via len = (k : ℕ) → k < len → Unmetered streams n (slice_index via k)

-- Stream i may have been added.
abbrev pub ListedMore : ℕ → List ℕ → ℕ → List ℕ → ℕ → Type 0
ListedMore i via len via' r = (ss : List Stream) (n : ℕ) → Unmetered ss n i → Listed ss n via len → Listed ss n via' r

-- They are such of the streams that arcs and rows are of, whichever these are.
abbrev pub ListedOf : List ℕ → List ℕ → List ℕ → ℕ → Type 0
ListedOf ls rs via len = (w : Laying ls rs) → Listed w.streams w.n via len

-- The first n numbers of an array are such.
pub record FreeOf (ls rs listed : List ℕ) (n : ℕ) : Type 0 where
  pub long : length listed ≡ max_streams
  pub few : n ≤ max_streams
  pub each : ListedOf ls rs listed n

-- A forest's streams stay such, where those that may be added are.
abbrev pub ListedOn : List ℕ → List ℕ → List ℕ → ℕ → List ℕ → ℕ → Type 0
ListedOn ls listed via len via' r = (rs : List ℕ) → ListedOf ls rs listed (length listed) → ListedOf ls rs via len → ListedOf ls rs via' r

-- A forest along which amounts can be routed.
pub record Routable (streams : List Stream) (n : ℕ) (f : Forest) : Type 0 where
  pub vias : length f.via ≡ places
  pub intos : length f.into ≡ places
  pub short : f.len ≤ places
  pub listed : Listed streams n f.via f.len

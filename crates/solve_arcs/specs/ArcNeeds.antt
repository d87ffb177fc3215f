-- What arcs, rows and margins are, and what a walk over them requires.
use Rattle.std.specs.Prelude.{◌≡◌, Bool, true, false, List, ℕ, ◌+◌, ◌*◌, ◌≤◌, ◌<◌, length, get_or, take, replicate}
use Rattle.num_bytes.specs.Choice.{pick}
use Rattle.plant_def.specs.declared.Stream.{Stream}
use Rattle.plant_def.specs.Limits.{places, max_streams, max_weight}
use Rattle.plant_def.specs.Plants.{no_stream}
use Rattle.flow_def.specs.Certificate.{weight_of}
use Rattle.solve_def.specs.Sizes.{most_flow, most_pull, most_step, search_rounds, far}
use Rattle.solve_def.specs.Held.{reading_of, low_of, high_of}
use Rattle.solve_def.specs.declared.Walked.{Walked}
use Rattle.solve_def.specs.Search.{root_at}
use Rattle.solve_def.specs.Near.{arc_at, walked}
use Rattle.solve_def.specs.SearchNeeds.{Network, Potentials, Walkable}
use Rattle.solve_arcs.specs.Cells.{to_cell, next_cell, arc_cells, arc_of, count_of, starts_of, ends_of, row_cells, margin_cells}
use Rattle.solve_arcs.specs.Margins.{margin_at, shut, spared, leaves, reduced_costs}

-- The first i streams are in the lists; fs are all starts, ts all ends.
pub record Listed (i : ℕ) (fs ts ls : List ℕ) : Type 0 where
  pub long : length ls ≡ arc_cells
  pub first : (u : ℕ) → u < places → get_or ls u 0 ≡ arc_at fs ts u i
  pub next : (k : ℕ) (f : Bool) → k < i → get_or ls (next_cell + arc_of k f) 0 ≡ arc_at fs ts (pick f (get_or fs k 0) (get_or ts k 0)) k
  pub starts : (k : ℕ) → k < i → get_or ls (to_cell + 2 * k) 0 ≡ get_or fs k 0
  pub ends : (k : ℕ) → k < i → get_or ls (to_cell + (2 * k + 1)) 0 ≡ get_or ts k 0

-- Arcs of which a walk can go along.
pub record Linked (ls : List ℕ) : Type 0 where
  pub few : count_of ls ≤ max_streams
  pub from_in : (k : ℕ) → k < count_of ls → get_or (starts_of ls) k 0 < places
  pub to_in : (k : ℕ) → k < count_of ls → get_or (ends_of ls) k 0 < places
  pub first : (u : ℕ) → u < places → get_or ls u 0 ≡ arc_at (starts_of ls) (ends_of ls) u (count_of ls)
  pub next : (k : ℕ) (f : Bool) → k < count_of ls → get_or ls (next_cell + arc_of k f) 0 ≡ arc_at (starts_of ls) (ends_of ls) (leaves ls f k) k

-- The rows of the first n streams.
pub record Rowed (streams : List Stream) (n : ℕ) (rs : List ℕ) : Type 0 where
  pub long : length rs ≡ row_cells
  pub weights : (k : ℕ) → k < n → get_or rs (4 * k) 0 ≡ weight_of (get_or streams k no_stream)
  pub pulls : (k : ℕ) → k < n → get_or rs (4 * k + 1) 0 ≡ 2 * (weight_of (get_or streams k no_stream) * reading_of (get_or streams k no_stream))
  pub lows : (k : ℕ) → k < n → get_or rs (4 * k + 2) 0 ≡ low_of (get_or streams k no_stream)
  pub highs : (k : ℕ) → k < n → get_or rs (4 * k + 3) 0 ≡ high_of (get_or streams k no_stream)
  pub pulled : (k : ℕ) → k < n → get_or rs (4 * k + 1) 0 ≤ 2 * most_pull

-- Arcs of the first n streams.
pub record LaidArcs (streams : List Stream) (n : ℕ) (ls : List ℕ) : Type 0 where
  pub counted : count_of ls ≡ n
  pub linked : Linked ls
  pub starts : (k : ℕ) → k < n → get_or (starts_of ls) k 0 ≡ (get_or streams k no_stream).from
  pub ends : (k : ℕ) → k < n → get_or (ends_of ls) k 0 ≡ (get_or streams k no_stream).to

-- And their rows.
pub record Laid (streams : List Stream) (n : ℕ) (ls rs : List ℕ) : Type 0 where
  pub along : LaidArcs streams n ls
  pub rowed : Rowed streams n rs

-- A row of a stream that can have margins.
pub record Row (rs : List ℕ) (k : ℕ) : Type 0 where
  pub low : k < max_streams
  pub light : get_or rs (4 * k) 0 ≤ max_weight
  pub pulled : get_or rs (4 * k + 1) 0 ≤ 2 * most_pull
  pub low_in : get_or rs (4 * k + 2) 0 ≤ most_flow

-- What margins of the first n streams at the amounts xs and step d require.
abbrev pub Marginable : ℕ → List ℕ → List ℕ → ℕ → List ℕ → Type 0
Marginable n rs xs d ms =
    ((k : ℕ) → k < n → Row rs k) × ((k : ℕ) → k < n → get_or xs k 0 ≤ most_flow) × (n ≤ max_streams) × (d ≤ most_step) × (length ms ≡ margin_cells)

-- Margins of the first n streams at the amounts xs and step d, metered streams before number skip left alone.
pub record Margined (n : ℕ) (rs xs : List ℕ) (d skip : ℕ) (ms : List ℕ) : Type 0 where
  pub long : length ms ≡ margin_cells
  pub are : (k : ℕ) (f : Bool) → k < n → spared rs skip k ≡ false → get_or ms (arc_of k f) 0 ≡ margin_at rs f k (get_or xs k 0) d
  pub alone : (k : ℕ) (f : Bool) → k < n → spared rs skip k ≡ true → get_or ms (arc_of k f) 0 ≡ shut

-- None of the first len remembered streams is left alone.
abbrev pub Free : List ℕ → ℕ → List ℕ → ℕ → Type 0
Free rs skip via len = (j : ℕ) → j < len → spared rs skip (get_or via j 0) ≡ false

-- Streams that arcs and rows are of.
pub record Laying (ls rs : List ℕ) : Type 0 where
  pub streams : List Stream
  pub n : ℕ
  pub network : Network streams n
  pub laid : Laid streams n ls rs

-- What holds of the streams that arcs and rows are of, whichever they are.
abbrev pub OfStreams : List ℕ → List ℕ → (List Stream → ℕ → Type 0) → Type 0
OfStreams ls rs P = (w : Laying ls rs) → P (take w.n w.streams) w.n

-- Arcs, margins and potentials of which a walk can go along.
pub record Ways (ls ms ps : List ℕ) : Type 0 where
  pub linked : Linked ls
  pub potentials : Potentials ps
  pub small : (k : ℕ) (f : Bool) → k < count_of ls → get_or ms (arc_of k f) 0 ≤ shut

-- A walk from place s along arcs by their reduced costs, until a place with a negative net of es is visited, at most limit away.
abbrev pub walked_from : List ℕ → List ℕ → List ℕ → List ℕ → ℕ → ℕ → Walked
walked_from ls ms ps es limit s =
    walked (starts_of ls) (ends_of ls) (reduced_costs ls ms ps true) (reduced_costs ls ms ps false) (count_of ls) es limit search_rounds 0 s
    (replicate places 0) (replicate places far) (root_at s)

-- Streams that arcs are of, and such that a search can go over them.
pub record Searching (ls ms ps : List ℕ) (d skip : ℕ) : Type 0 where
  pub streams : List Stream
  pub n : ℕ
  pub rows : List ℕ
  pub amounts : List ℕ
  pub walkable : Walkable streams n amounts ps d
  pub laid : Laid streams n ls rows
  pub margined : Margined n rows amounts d skip ms

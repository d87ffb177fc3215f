-- What the contracts of the gathered streams cite: labels, the groups of streams' ends, and the size of the meters.
use Rattle.std.specs.Prelude.{◌≡◌, List, ℕ, ◌+◌, ◌*◌, ◌≤◌, ◌<◌, length, get_or, Float}
use Rattle.plant_def.specs.Limits.{places, max_streams}
use Rattle.solve_arcs.specs.Cells.{to_cell, count_of}
use Rattle.solve_arcs.specs.ArcNeeds.{Laying}

-- Labels that are places.
pub record Labels (ls : List ℕ) : Type 0 where
  pub long : length ls ≡ places
  pub within : (u : ℕ) → u < places → get_or ls u 0 < places

-- Arcs and rows of streams whose ends have labels among the first n places.
pub record Placed (n : ℕ) (gs ls rs : List ℕ) : Type 0 where
  pub few : n ≤ places
  pub laying : Laying ls rs
  pub starts : (k : ℕ) → k < count_of ls → get_or gs (get_or ls (to_cell + 2 * k) 0) 0 < n
  pub ends : (k : ℕ) → k < count_of ls → get_or gs (get_or ls (to_cell + (2 * k + 1)) 0) 0 < n

-- The same of some number of places.
abbrev pub Placing : List ℕ → List ℕ → List ℕ → Type 0
Placing gs ls rs = (n : ℕ) × Placed n gs ls rs

-- The groups of start and end of each stream, which are among the first n places.
pub record Ends (n : ℕ) (es : List ℕ) : Type 0 where
  pub long : length es ≡ 2 * max_streams
  pub within : (j : ℕ) → j < 2 * max_streams → get_or es j 0 < n

-- Groups put in for those that were there are among them too.
abbrev pub StillEnds : List ℕ → List ℕ → List ℕ → List ℕ → List ℕ → Type 0
StillEnds gs ls rs es es' = (n : ℕ) → Placed n gs ls rs → Ends n es → Ends n es'

-- The numbers that the meters take: for each stream four.
abbrev pub meter_cells : ℕ
meter_cells = 4 * max_streams

-- The size of both lists.
abbrev pub Long : List ℕ → List Float → Type 0
Long es ms = (length es ≡ 2 * max_streams) × (length ms ≡ meter_cells)

-- The first count streams gathered, with groups among the first n places.
pub record Gathered (n : ℕ) (es : List ℕ) (ms : List Float) (count : ℕ) : Type 0 where
  pub few : n ≤ places
  pub ends : Ends n es
  pub long : length ms ≡ meter_cells
  pub short : count ≤ max_streams

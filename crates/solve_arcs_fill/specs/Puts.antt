-- What is stored of one stream in the arcs and in the rows.
use Rattle.std.specs.Prelude.{◌≡◌, List, ℕ, ◌+◌, ◌*◌, ◌<◌, get_or, length, set}
use Rattle.num_bytes.specs.Inner.{values}
use Rattle.plant_def.specs.declared.Stream.{Stream}
use Rattle.plant_def.specs.Limits.{places, max_streams}
use Rattle.plant_def.specs.Plants.{no_stream}
use Rattle.flow_def.specs.Certificate.{weight_of}
use Rattle.solve_def.specs.Held.{reading_of, low_of, high_of}
use Rattle.solve_def.specs.SearchNeeds.{Network}
use Rattle.solve_arcs.specs.Cells.{to_cell, next_cell, arc_cells, row_cells}

-- Where the first n streams start.
unfoldable pub starts_in : List Stream → ℕ → List ℕ
starts_in streams n = values n (λ k. (get_or streams k no_stream).from)

-- Where the first n streams end.
unfoldable pub ends_in : List Stream → ℕ → List ℕ
ends_in streams n = values n (λ k. (get_or streams k no_stream).to)

-- Stream i, from place u to place v: where its arcs lead.
abbrev pub ends_put : ℕ → ℕ → ℕ → List ℕ → List ℕ
ends_put i u v ls = set (set ls (to_cell + 2 * i) u) (to_cell + (2 * i + 1)) v

-- The arcs x and y come next after those of stream i.
abbrev pub next_put : ℕ → ℕ → ℕ → List ℕ → List ℕ
next_put i x y ls = set (set ls (next_cell + (2 * i + 1)) x) (next_cell + 2 * i) y

-- The arcs of stream i become the first at the places u and v.
abbrev pub first_put : ℕ → ℕ → ℕ → List ℕ → List ℕ
first_put i u v ls = set (set ls v (2 * i)) u (2 * i + 1)

-- What laying the first n streams requires: no arc is there yet.
abbrev pub Layable : List Stream → ℕ → List ℕ → List ℕ → Type 0
Layable streams n ls rs = Network streams n × (length ls ≡ arc_cells) × ((u : ℕ) → u < places → get_or ls u 0 ≡ 2 * max_streams) × (length rs ≡ row_cells)

-- The row of stream i.
abbrev pub row_put : ℕ → Stream → List ℕ → List ℕ
row_put i s rs =
    set (set (set (set rs (4 * i) (weight_of s)) (4 * i + 1) (2 * (weight_of s * reading_of s))) (4 * i + 2) (low_of s)) (4 * i + 3) (high_of s)

-- The residual arcs: the streams in use as one list of bytes. A stream k has two arcs, 2k + 1 forwards from its start to its end and 2k
-- backwards. First, for each place, the arc of the last stream that starts or ends there (arc_at in Near); then for each arc the place
-- that it leads to; then for each arc the next one of the place that it leaves; last, how many streams are in use.
-- The rows: four numbers for each stream, its weight, twice its weight times its reading, and the ends of its range.
use Rattle.std.specs.Prelude.{Bool, List, ℕ, ◌+◌, ◌*◌, get_or}
use Rattle.num_bytes.specs.Choice.{pick}
use Rattle.num_bytes.specs.Inner.{values}
use Rattle.plant_def.specs.Limits.{places, max_streams}

-- Where the places begin that arcs lead to,
abbrev pub to_cell : ℕ
to_cell = places

-- where the next arcs from their starts begin,
abbrev pub next_cell : ℕ
next_cell = places + 2 * max_streams

-- and where the number of streams stands.
abbrev pub count_cell : ℕ
count_cell = places + 4 * max_streams

-- How many bytes the arcs take in all.
abbrev pub arc_cells : ℕ
arc_cells = count_cell + 1

-- The arc of stream k forwards, and backwards.
abbrev pub arc_of : ℕ → Bool → ℕ
arc_of k f = 2 * k + pick f 1 0

-- How many streams are in use.
abbrev pub count_of : List ℕ → ℕ
count_of ls = get_or ls count_cell 0

-- Where the streams in use start: where their arcs lead backwards.
unfoldable pub starts_of : List ℕ → List ℕ
starts_of ls = values (count_of ls) (λ k. get_or ls (to_cell + 2 * k) 0)

-- Where the streams in use end: where their arcs lead forwards.
unfoldable pub ends_of : List ℕ → List ℕ
ends_of ls = values (count_of ls) (λ k. get_or ls (to_cell + (2 * k + 1)) 0)

-- How many numbers the rows take,
abbrev pub row_cells : ℕ
row_cells = 4 * max_streams

-- and how many the margins take.
abbrev pub margin_cells : ℕ
margin_cells = 2 * max_streams

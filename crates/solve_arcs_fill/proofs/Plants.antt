-- Arcs and rows of a plant, and the empty arrays in which they are laid.
use mathlib.Core.Path.{◌≡◌, sym, ◌∙◌}
use mathlib.Core.List.{List}
use Prim.Native.Nat.{ℕ, ◌+◌, ◌*◌, ◌<◌}
use native.Mathlib.Omega.{arith}
use borrow.Author.Tests.{ltb-true, ltb-false}
use lib.Dec.{ltb}
use lib.ListN.{get_or, replicate, get_or-replicate}
use Rattle.num_bytes.proofs.Tests.{by_cases}
use Rattle.plant_def.specs.declared.Plant.{Plant}
use Rattle.plant_def.specs.Limits.{places, max_streams}
use Rattle.plant_def.specs.Plants.{no_stream}
use Rattle.flow_def.specs.Certificate.{weight_of}
use Rattle.solve_def.specs.Held.{reading_of}
use Rattle.solve_def.proofs.Theorem.{network_of}
use Rattle.solve_arcs.specs.Cells.{to_cell, arc_cells, count_of}
use Rattle.solve_arcs.specs.ArcNeeds.{Laying}
use Rattle.solve_arcs.proofs.Rowing.{from_is, to_is, start_in, end_in, metered_of, free_of}
use Rattle.solve_arcs_fill.specs.Plants.{LaidOf}

-- No arc in an empty array.
pub no_arc : (u : ℕ) → u < places → get_or (replicate arc_cells (2 * max_streams)) u 0 ≡ 2 * max_streams
no_arc u l = get_or-replicate arc_cells u (2 * max_streams) 0 (omega arith)

module _ {p : Plant} {ls rs : List ℕ} (w : LaidOf p ls rs) where
  abbrev laying : Laying ls rs
  laying = record { streams = p.streams; n = p.count; network = network_of p w.accepted; laid = w.laid }

  -- The arcs are of all streams of the plant.
  pub counted : count_of ls ≡ p.count
  counted = w.laid.along.counted

  -- Stream i by its arcs and its row.
  module _ (i : ℕ) (l : i < p.count) where
    used : i < count_of ls
    used = rw counted l

    -- A stream in use is among those that there may be.
    pub few : i < max_streams
    few = omega (arith, l, w.accepted.within.few_streams)

    -- Its arc backwards leads to its start,
    pub from_at : get_or ls (to_cell + 2 * i) 0 ≡ (get_or p.streams i no_stream).from
    from_at = from_is ls rs laying i used

    -- and its arc forwards to its end;
    pub to_at : get_or ls (to_cell + (2 * i + 1)) 0 ≡ (get_or p.streams i no_stream).to
    to_at = to_is ls rs laying i used

    -- its start is a place,
    pub from_low : get_or ls (to_cell + 2 * i) 0 < places
    from_low = start_in ls rs laying i used

    -- and so is its end.
    pub to_low : get_or ls (to_cell + (2 * i + 1)) 0 < places
    to_low = end_in ls rs laying i used

    -- Its row has its weight,
    pub weight_at : get_or rs (4 * i) 0 ≡ weight_of (get_or p.streams i no_stream)
    weight_at = w.laid.rowed.weights i l

    -- and twice its weight times its reading.
    pub pull_at : get_or rs (4 * i + 1) 0 ≡ 2 * (weight_of (get_or p.streams i no_stream) * reading_of (get_or p.streams i no_stream))
    pull_at = w.laid.rowed.pulls i l

    -- It is metered where it weighs something.
    pub metered_at : (get_or p.streams i no_stream).metered ≡ ltb 0 (get_or rs (4 * i) 0)
    metered_at = by_cases (ltb 0 (get_or rs (4 * i) 0))
        (λ t. metered_of ls rs laying i used (ltb-true 0 (get_or rs (4 * i) 0) t) ∙ sym t)
        (λ t. free_of ls rs laying i used (ltb-false 0 (get_or rs (4 * i) 0) t) ∙ sym t)

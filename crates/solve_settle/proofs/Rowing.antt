-- One stream of the arcs and the rows: settled, and booked.
use mathlib.Core.Path.{◌≡◌, sym, ◌∙◌}
use mathlib.Core.List.{List, []}
use Prim.Native.Nat.{ℕ, ◌+◌, ◌*◌, ◌≤◌, ◌<◌}
use lib.Dec.{ltb}
use lib.ListN.{get_or, set, take}
use lib.Seq.{set-get_or}
use native.Mathlib.Omega.{arith}
use borrow.Author.Tests.{ltb-true, ltb-false}
use Rattle.num_bytes.specs.Choice.{pick}
use Rattle.num_bytes.proofs.Tests.{by_cases}
use Rattle.plant_def.specs.declared.Stream.{Stream}
use Rattle.plant_def.specs.Plants.{no_stream}
use Rattle.solve_def.specs.Held.{reading_of}
use Rattle.solve_def.specs.Model.{clamped, nearest_amount, settled_to, left, come, nets_to}
use Rattle.solve_def.proofs.Turns.{settle_hit, settle_miss, nets_next}
use Rattle.solve_arcs.specs.Cells.{to_cell, count_of}
use Rattle.solve_arcs.specs.ArcNeeds.{Laying}
use Rattle.solve_arcs.proofs.Rowing.{below, from_is, to_is, metered_of, free_of}

module _ (ls rs : List ℕ) (w : Laying ls rs) (i : ℕ) (l : i < count_of ls) where
  abbrev s : Stream
  s = get_or w.streams i no_stream

  -- The row has the stream's reading.
  pub pull_is : get_or rs (4 * i + 1) 0 ≡ 2 * (get_or rs (4 * i) 0 * reading_of s)
  pull_is = w.laid.rowed.pulls i (below ls rs w i l) ∙ sym (rw (w.laid.rowed.weights i (below ls rs w i l)))

  module _ (ps xs ys : List ℕ) (e : ys ≡ settled_to (take w.n w.streams) ps xs i) where
    -- A metered stream is settled.
    settled_row : (r : ℕ) → 0 < get_or rs (4 * i) 0
        → r ≡ clamped (get_or rs (4 * i + 2) 0) (get_or rs (4 * i + 3) 0)
        (nearest_amount (get_or rs (4 * i) 0) (reading_of s) (get_or ps (get_or ls (to_cell + 2 * i) 0) 0) (get_or ps (get_or ls (to_cell + (2 * i + 1)) 0) 0))
        → set ys i r ≡ settled_to (take w.n w.streams) ps xs (i + 1)
    settled_row r h q =
        rw (q, e, w.laid.rowed.lows i (below ls rs w i l), w.laid.rowed.highs i (below ls rs w i l), w.laid.rowed.weights i (below ls rs w i l), from_is ls rs w i l, to_is ls rs w i l)
        (sym (settle_hit w.streams w.n ps xs i (below ls rs w i l) (metered_of ls rs w i l h)))

    -- An unmetered one stays.
    passed_row : get_or rs (4 * i) 0 ≤ 0 → ys ≡ settled_to (take w.n w.streams) ps xs (i + 1)
    passed_row h = e ∙ sym (settle_miss w.streams w.n ps xs i (below ls rs w i l) (free_of ls rs w i l h))

    -- One stream more: what is stored is the settled amount, or what was there.
    pub turned_row : (x r : ℕ)
        → (1 ≤ get_or rs (4 * i) 0 → x ≡ clamped (get_or rs (4 * i + 2) 0) (get_or rs (4 * i + 3) 0)
        (nearest_amount (get_or rs (4 * i) 0) (reading_of s) (get_or ps (get_or ls (to_cell + 2 * i) 0) 0) (get_or ps (get_or ls (to_cell + (2 * i + 1)) 0) 0)))
        → r ≡ pick (ltb 0 (get_or rs (4 * i) 0)) x (get_or ys i 0) → set ys i r ≡ settled_to (take w.n w.streams) ps xs (i + 1)
    turned_row x r q p =
        by_cases (ltb 0 (get_or rs (4 * i) 0))
        (λ t. let h : 0 < get_or rs (4 * i) 0 = ltb-true 0 (get_or rs (4 * i) 0) t in settled_row r h (rw t at p ∙ q (omega arith)))
        (λ t. let h : get_or rs (4 * i) 0 ≤ 0 = ltb-false 0 (get_or rs (4 * i) 0) t in rw (rw t at p, set-get_or ys i 0) (passed_row h))

  -- The amount of a stream is booked.
  pub booked_row : (xs ys : List ℕ) → ys ≡ nets_to (take w.n w.streams) xs i
      → come (left ys (get_or ls (to_cell + 2 * i) 0) (get_or xs i 0)) (get_or ls (to_cell + (2 * i + 1)) 0) (get_or xs i 0) ≡ nets_to (take w.n w.streams) xs (i + 1)
  booked_row xs ys e = rw (e, from_is ls rs w i l, to_is ls rs w i l) (sym (nets_next w.streams w.n [] xs i (below ls rs w i l)))

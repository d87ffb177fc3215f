-- One turn of the test of a set, by arcs and rows.
use mathlib.Core.Path.{◌≡◌, refl, sym, ◌∙◌, ap}
use mathlib.Core.Bool.{Bool, true, false, ◌&&◌}
use mathlib.Core.List.{List}
use Prim.Native.Nat.{ℕ, zero, suc, ◌+◌, ◌*◌, ◌≤◌, ◌<◌}
use native.Mathlib.Numerals.{add-one}
use native.Mathlib.Omega.{arith}
use native.Mathlib.Decide.{ℕ_discrete}
use lib.Dec.{ltb}
use lib.ListN.{length, get_or, take}
use Rattle.num_bytes.proofs.Tests.{and_both}
use Rattle.plant_def.specs.declared.Stream.{Stream}
use Rattle.plant_def.specs.Plants.{no_stream}
use Rattle.flow_def.specs.Flows.{stream_at}
use Rattle.solve_def.specs.Sizes.{flow_shift, most_flow}
use Rattle.solve_def.specs.Held.{low_of, high_of}
use Rattle.solve_def.specs.Full.{may_cross, pressed, bounded_to, pressed_to, overfull}
use Rattle.solve_def.proofs.Bounds.{high_most, low_high}
use Rattle.solve_def.proofs.Streams.{stream_is, in_use}
use Rattle.solve_arcs.specs.Cells.{to_cell, count_of}
use Rattle.solve_arcs.specs.ArcNeeds.{Laying}
use Rattle.solve_arcs.proofs.Rowing.{below, from_is, to_is}

-- No stream yet.
pub bounded_none : (ss : List Stream) (ms : List Bool) → bounded_to ss ms 0 ≡ true
unfolding bounded_to
bounded_none ss ms = refl

-- Nothing is pressed in yet.
pub pressed_none : (ss : List Stream) (ms : List Bool) → pressed_to ss ms 0 ≡ 0
unfolding pressed_to
pressed_none ss ms = refl

-- One stream presses no more than can be held.
pub pressed_most : (a b : Bool) (low high : ℕ) → low ≤ most_flow → pressed a b low high ≤ most_flow
pressed_most true true low high l = omega arith
pressed_most true false low high l = omega arith
pressed_most false true low high l = l
pressed_most false false low high l = omega arith

bounded_stop : (ss : List Stream) (ms : List Bool) (i n : ℕ) → i < n
    → may_cross (get_or ms (stream_at ss i).from false) (get_or ms (stream_at ss i).to false) (low_of (stream_at ss i)) ≡ false → bounded_to ss ms n ≡ false
unfolding bounded_to
bounded_stop ss ms i zero l e = absurd (omega arith)
bounded_stop ss ms i (suc n) l e = elim (ℕ_discrete i n) [
  | yes q ↦ rw (rw q at e)
  | no q ↦ go (may_cross (get_or ms (stream_at ss n).from false) (get_or ms (stream_at ss n).to false) (low_of (stream_at ss n))) (bounded_stop ss ms i n (omega arith) e)
]
  where
    go : (b : Bool) → bounded_to ss ms n ≡ false → b && bounded_to ss ms n ≡ false
    go true r = r
    go false r = refl

module _ (ls rs : List ℕ) (w : Laying ls rs) (ms : List Bool) (i : ℕ) (l : i < count_of ls) where
  abbrev ss : List Stream
  ss = take w.n w.streams

  -- The places that its arcs lead to, and its range.
  abbrev from : ℕ
  from = get_or ls (to_cell + 2 * i) 0

  abbrev to : ℕ
  to = get_or ls (to_cell + (2 * i + 1)) 0

  abbrev low : ℕ
  low = get_or rs (4 * i + 2) 0

  abbrev high : ℕ
  high = get_or rs (4 * i + 3) 0

  abbrev may : Bool
  may = may_cross (get_or ms from false) (get_or ms to false) low

  abbrev push : ℕ
  push = pressed (get_or ms from false) (get_or ms to false) low high

  -- The range of a row can be held.
  pub row_range : (low ≤ most_flow) × (high ≤ most_flow)
  row_range =
      let s = get_or w.streams i no_stream in
      let e = w.network.within.each i (below ls rs w i l) in
      (rw (w.laid.rowed.lows i (below ls rs w i l)) (omega (arith, low_high s e, high_most s e)), rw (w.laid.rowed.highs i (below ls rs w i l)) (high_most s e))

  may_is : may ≡ may_cross (get_or ms (stream_at ss i).from false) (get_or ms (stream_at ss i).to false) (low_of (stream_at ss i))
  may_is = rw (from_is ls rs w i l, to_is ls rs w i l, w.laid.rowed.lows i (below ls rs w i l), stream_is w.streams w.n i (below ls rs w i l))

  push_is : push ≡ pressed (get_or ms (stream_at ss i).from false) (get_or ms (stream_at ss i).to false) (low_of (stream_at ss i)) (high_of (stream_at ss i))
  push_is = rw (from_is ls rs w i l, to_is ls rs w i l, w.laid.rowed.lows i (below ls rs w i l), w.laid.rowed.highs i (below ls rs w i l), stream_is w.streams w.n i (below ls rs w i l))

  -- One stream more may stand where it stands.
  pub bounded_next : may ≡ true → bounded_to ss ms i ≡ true → bounded_to ss ms (i + 1) ≡ true
  unfolding bounded_to
  bounded_next e r = rw add-one (and_both _ _ (sym may_is ∙ e) r)

  -- One stream more is summed.
  pub pressed_next : pressed_to ss ms (i + 1) ≡ push + pressed_to ss ms i
  unfolding pressed_to
  pressed_next = rw add-one (ap (λ (k : ℕ). k + pressed_to ss ms i) (sym push_is))

  -- One may not: the set is not full.
  pub full_stop : may ≡ false → false ≡ overfull ss ms
  full_stop e = sym (rw (bounded_stop ss ms i (length ss) (rw (in_use w.streams w.n w.network) (below ls rs w i l)) (sym may_is ∙ e)))

-- The test at the end.
pub full_end : (ls rs : List ℕ) (w : Laying ls rs) (ms : List Bool) (n sum : ℕ) (r : Bool) → n ≡ count_of ls
    → bounded_to (take w.n w.streams) ms n ≡ true → sum ≡ pressed_to (take w.n w.streams) ms n → r ≡ ltb (n * flow_shift) sum
    → r ≡ overfull (take w.n w.streams) ms
full_end ls rs w ms n sum r c b s e =
    let q : length (take w.n w.streams) ≡ n = in_use w.streams w.n w.network ∙ sym w.laid.along.counted ∙ sym c in
    e ∙ rw (q, b, s)

-- A stream in use, by its arcs and its row: it can have margins, its ends are places, and it is metered where it weighs something.
use mathlib.Core.Path.{◌≡◌, refl, sym, ◌∙◌}
use mathlib.Core.Bool.{Bool, true, false}
use mathlib.Core.List.{List}
use Prim.Native.Nat.{ℕ, ◌+◌, ◌*◌, ◌≤◌, ◌<◌}
use native.Mathlib.Omega.{arith}
use lib.ListN.{get_or}
use Rattle.num_bytes.specs.Choice.{pick}
use Rattle.plant_def.specs.declared.Stream.{Stream}
use Rattle.plant_def.specs.Limits.{places, max_streams}
use Rattle.plant_def.specs.Plants.{no_stream}
use Rattle.solve_def.specs.SearchNeeds.{Network}
use Rattle.solve_def.proofs.Weights.{weight_most}
use Rattle.solve_def.proofs.Bounds.{low_high, high_most}
use Rattle.solve_arcs.specs.Cells.{to_cell, count_of}
use Rattle.solve_arcs.specs.ArcNeeds.{Rowed, Row, Laying}
use Rattle.solve_arcs.proofs.Along.{starts_at, ends_at}

-- A stream of a network has a row that can have margins.
pub row_of : (streams : List Stream) (n : ℕ) (rs : List ℕ) → Network streams n → Rowed streams n rs → (k : ℕ) → k < n → Row rs k
row_of streams n rs w r k l = record {
  low = omega (arith, w.within.few_streams);
  light = rw (r.weights k l) (weight_most (get_or streams k no_stream) (w.within.each k l));
  pulled = r.pulled k l;
  low_in = rw (r.lows k l) (omega (arith, low_high (get_or streams k no_stream) (w.within.each k l), high_most (get_or streams k no_stream) (w.within.each k l)));
}

module _ (ls rs : List ℕ) (w : Laying ls rs) (i : ℕ) (l : i < count_of ls) where
  -- Stream i is one of the n.
  pub below : i < w.n
  below = rw w.laid.along.counted at l

  -- Its number is below the limit.
  pub low_in : i < max_streams
  low_in = omega (arith, below, w.network.within.few_streams)

  -- Its row can have margins.
  pub row_at : Row rs i
  row_at = row_of w.streams w.n rs w.network w.laid.rowed i below

  -- Where its arcs lead.
  pub from_is : get_or ls (to_cell + 2 * i) 0 ≡ (get_or w.streams i no_stream).from
  from_is = sym (starts_at ls i l) ∙ w.laid.along.starts i below

  -- The cell of its end.
  pub to_is : get_or ls (to_cell + (2 * i + 1)) 0 ≡ (get_or w.streams i no_stream).to
  to_is = sym (ends_at ls i l) ∙ w.laid.along.ends i below

  -- Its start is a place.
  pub start_in : get_or ls (to_cell + 2 * i) 0 < places
  start_in = rw from_is (omega (arith, (w.network.within.each i below).from_in))

  -- So is its end.
  pub end_in : get_or ls (to_cell + (2 * i + 1)) 0 < places
  end_in = rw to_is (omega (arith, (w.network.within.each i below).to_in))

  -- It is metered where its weight is not 0.
  pub metered_of : 0 < get_or rs (4 * i) 0 → (get_or w.streams i no_stream).metered ≡ true
  metered_of h = go (get_or w.streams i no_stream).metered (rw (w.laid.rowed.weights i below) at h)
    where
      go : (b : Bool) → 0 < pick b (get_or w.streams i no_stream).weight 0 → b ≡ true
      go true o = refl
      go false o = absurd (omega arith)

  -- And unmetered where it is.
  pub free_of : get_or rs (4 * i) 0 ≤ 0 → (get_or w.streams i no_stream).metered ≡ false
  free_of h = go (get_or w.streams i no_stream).metered (w.network.within.each i below).weighed (rw (w.laid.rowed.weights i below) at h)
    where
      go : (b : Bool) → (b ≡ true → 1 ≤ (get_or w.streams i no_stream).weight) → pick b (get_or w.streams i no_stream).weight 0 ≤ 0 → b ≡ false
      go true o m = absurd (omega (arith, o refl))
      go false o m = refl

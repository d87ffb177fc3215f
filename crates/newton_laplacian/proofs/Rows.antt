-- A stream in use, by its row: its reading is within its limits; and whether some stream has a range.
use mathlib.Core.Path.{◌≡◌, refl}
use mathlib.Core.Bool.{Bool, true, false, ◌||◌}
use mathlib.Core.List.{List}
use Prim.Native.Nat.{ℕ, zero, suc, ◌+◌, ◌*◌, ◌≤◌, ◌<◌}
use native.Mathlib.Nat.{mul-le-mul_left}
use native.Mathlib.Decide.{dec_le}
use native.Mathlib.Numerals.{add-one}
use native.Mathlib.Omega.{arith}
use lib.IntN.{nat_abs}
use lib.ListN.{get_or}
use Rattle.num_bytes.specs.Choice.{pick}
use Rattle.plant_def.specs.declared.Stream.{Stream}
use Rattle.plant_def.specs.Limits.{max_reading}
use Rattle.plant_def.specs.Plants.{no_stream}
use Rattle.flow_def.specs.Certificate.{weight_of}
use Rattle.solve_def.specs.Sizes.{most_reading}
use Rattle.solve_def.specs.Held.{reading_of}
use Rattle.solve_def.specs.SearchNeeds.{SizeWithin}
use Rattle.solve_def.proofs.Bounds.{reading_within}
use Rattle.solve_arcs.specs.Cells.{count_of}
use Rattle.solve_arcs.specs.ArcNeeds.{Laying}
use Rattle.solve_arcs.proofs.Rowing.{below, row_at}
use Rattle.newton_laplacian.specs.Readings.{least_read, most_read, Read, ranged, ranged_to}

-- Twice a weight times a reading within its limits.
within : (w R : ℕ) → SizeWithin most_reading R → (w * least_read ≤ 2 * (w * R)) × (2 * (w * R) ≤ w * most_read)
within w R c =
    let low : least_read ≤ 2 * R = omega (arith, c.1) in
    let high : 2 * R ≤ most_read = omega (arith, c.0) in
    (omega (arith, mul-le-mul_left w low), omega (arith, mul-le-mul_left w high))

-- An unmetered stream weighs nothing.
weighed : (s : Stream) → (s.metered ≡ true → nat_abs s.reading ≤ max_reading)
    → (weight_of s * least_read ≤ 2 * (weight_of s * reading_of s)) × (2 * (weight_of s * reading_of s) ≤ weight_of s * most_read)
weighed s h = go s.metered h
  where
    go : (b : Bool) → (b ≡ true → nat_abs s.reading ≤ max_reading)
        → (pick b s.weight 0 * least_read ≤ 2 * (pick b s.weight 0 * reading_of s)) × (2 * (pick b s.weight 0 * reading_of s) ≤ pick b s.weight 0 * most_read)
    go true f = within s.weight (reading_of s) (reading_within s.reading (f refl))
    go false f = (omega arith, omega arith)

-- The row of a stream in use.
pub read_of : (ls rs : List ℕ) (w : Laying ls rs) (i : ℕ) → i < count_of ls → Read rs i
read_of ls rs w i l =
    let b = below ls rs w i l in
    let h = weighed (get_or w.streams i no_stream) (w.network.within.each i b).within_range in
    record {
      row = row_at ls rs w i l;
      least = rw (w.laid.rowed.weights i b, w.laid.rowed.pulls i b) h.0;
      most = rw (w.laid.rowed.weights i b, w.laid.rowed.pulls i b) h.1;
    }

-- Before the first stream none has a range.
pub ranged_none : (rs : List ℕ) → ranged_to rs 0 ≡ false
unfolding ranged_to
ranged_none rs = refl

or_false : (a b : Bool) → a ≡ false → b ≡ false → (a || b) ≡ false
or_false a b e f = rw (e, f)

or_right : (a b : Bool) → b ≡ true → (a || b) ≡ true
or_right true b e = refl
or_right false b e = e

or_left : (a b : Bool) → a ≡ true → (a || b) ≡ true
or_left a b e = rw e

-- One stream more, which has none.
pub ranged_more : (rs : List ℕ) (k : ℕ) → ranged_to rs k ≡ false → ranged rs k ≡ false → ranged_to rs (k + 1) ≡ false
unfolding ranged_to
ranged_more rs k e f = rw (add-one k) (or_false (ranged_to rs k) (ranged rs k) e f)

-- A stream that has one.
pub ranged_found : (rs : List ℕ) (k n : ℕ) → k < n → ranged rs k ≡ true → ranged_to rs n ≡ true
unfolding ranged_to
ranged_found rs k zero h f = absurd (omega arith)
ranged_found rs k (suc n) h f = elim (dec_le (suc k) n) [
  | yes l ↦ or_left (ranged_to rs n) (ranged rs n) (ranged_found rs k n l f)
  | no l ↦ let e : k ≡ n = omega arith in or_right (ranged_to rs n) (ranged rs n) (rw (← e) f)
]

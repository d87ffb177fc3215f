-- One stream more in the arcs and in the rows.
use mathlib.Core.Path.{◌≡◌, refl, ◌∙◌, ap}
use mathlib.Core.Bool.{Bool, true, false}
use mathlib.Core.List.{List}
use Prim.Native.Nat.{ℕ, suc, ◌+◌, ◌*◌, ◌≤◌, ◌<◌}
use native.Mathlib.Omega.{arith}
use native.Mathlib.Decide.{ℕ_discrete}
use borrow.Author.Count.{below_none, below_more}
use lib.Dec.{eqb}
use lib.ListN.{length, get_or, set, length-set}
use lib.Seq.{get_or-set_same, get_or-set_other}
use Rattle.num_bytes.specs.Choice.{pick}
use Rattle.plant_def.specs.declared.Stream.{Stream}
use Rattle.plant_def.specs.Limits.{places, max_streams}
use Rattle.plant_def.specs.Plants.{no_stream}
use Rattle.num_bytes.proofs.Lists.{values_at, values_same}
use Rattle.flow_def.specs.Certificate.{weight_of}
use Rattle.solve_def.specs.Sizes.{most_pull}
use Rattle.solve_def.specs.Held.{reading_of, low_of, high_of}
use Rattle.solve_def.specs.Near.{arc_at}
use Rattle.solve_def.specs.SearchNeeds.{Network}
use Rattle.solve_def.proofs.Amounts.{get_set}
use Rattle.solve_arcs.specs.Cells.{to_cell, next_cell, count_cell, arc_cells, arc_of, count_of, starts_of, ends_of, row_cells}
use Rattle.solve_arcs.specs.ArcNeeds.{Listed, LaidArcs, Rowed}
use Rattle.solve_arcs_fill.specs.Puts.{starts_in, ends_in, ends_put, next_put, first_put}

-- Where stream k starts.
pub starts_in_lem : (streams : List Stream) (n k : ℕ) → k < n → get_or (starts_in streams n) k 0 ≡ (get_or streams k no_stream).from
unfolding starts_in
starts_in_lem streams n k l = values_at (λ k. (get_or streams k no_stream).from) 0 n k l

-- Where it ends.
pub ends_in_lem : (streams : List Stream) (n k : ℕ) → k < n → get_or (ends_in streams n) k 0 ≡ (get_or streams k no_stream).to
unfolding ends_in
ends_in_lem streams n k l = values_at (λ k. (get_or streams k no_stream).to) 0 n k l

module _ (i u v x y : ℕ) (ls : List ℕ) (low : i < max_streams) (lu : u < places) (lv : v < places) (long : length ls ≡ arc_cells) where
  abbrev l1 : List ℕ
  l1 = set ls (to_cell + 2 * i) u

  abbrev l2 : List ℕ
  l2 = set l1 (to_cell + (2 * i + 1)) v

  abbrev l3 : List ℕ
  l3 = set l2 (next_cell + (2 * i + 1)) x

  abbrev l4 : List ℕ
  l4 = set l3 (next_cell + 2 * i) y

  abbrev l5 : List ℕ
  l5 = set l4 v (2 * i)

  abbrev all : List ℕ
  all = first_put i u v (next_put i x y (ends_put i u v ls))

  long2 : length l2 ≡ arc_cells
  long2 = length-set l1 (to_cell + (2 * i + 1)) v ∙ length-set ls (to_cell + 2 * i) u ∙ long

  long3 : length l3 ≡ arc_cells
  long3 = length-set l2 (next_cell + (2 * i + 1)) x ∙ long2

  long4 : length l4 ≡ arc_cells
  long4 = length-set l3 (next_cell + 2 * i) y ∙ long3

  long5 : length l5 ≡ arc_cells
  long5 = length-set l4 v (2 * i) ∙ long4

  all_long : length all ≡ arc_cells
  all_long = length-set l5 u (2 * i + 1) ∙ long5

  -- Past the places; at the places; and where the arcs lead.
  high : (c : ℕ) → places ≤ c → get_or all c 0 ≡ get_or l4 c 0
  high c b = get_or-set_other l5 u c (2 * i + 1) 0 (λ o. omega arith) ∙ get_or-set_other l4 v c (2 * i) 0 (λ o. omega arith)

  ends : (c : ℕ) → places ≤ c → c < next_cell → get_or all c 0 ≡ get_or l2 c 0
  ends c b l = high c b ∙ get_or-set_other l3 (next_cell + 2 * i) c y 0 (λ o. omega arith) ∙ get_or-set_other l2 (next_cell + (2 * i + 1)) c x 0 (λ o. omega arith)

  -- The count stays.
  pub count_kept : count_of all ≡ count_of ls
  count_kept =
      high count_cell (omega arith) ∙ get_or-set_other l3 (next_cell + 2 * i) count_cell y 0 (λ o. omega arith) ∙ get_or-set_other l2 (next_cell + (2 * i + 1)) count_cell x 0 (λ o. omega arith)
      ∙ get_or-set_other l1 (to_cell + (2 * i + 1)) count_cell v 0 (λ o. omega arith) ∙ get_or-set_other ls (to_cell + 2 * i) count_cell u 0 (λ o. omega arith)

  at_first : (w : ℕ) → w < places → get_or all w 0 ≡ pick (eqb u w) (2 * i + 1) (pick (eqb v w) (2 * i) (get_or ls w 0))
  at_first w b =
      get_set l5 u w (2 * i + 1) 0 (omega (arith, long5))
      ∙ ap (pick (eqb u w) (2 * i + 1)) (get_set l4 v w (2 * i) 0 (omega (arith, long4)) ∙ ap (pick (eqb v w) (2 * i)) old)
    where
      old : get_or l4 w 0 ≡ get_or ls w 0
      old = get_or-set_other l3 (next_cell + 2 * i) w y 0 (λ o. omega arith) ∙ get_or-set_other l2 (next_cell + (2 * i + 1)) w x 0 (λ o. omega arith)
          ∙ get_or-set_other l1 (to_cell + (2 * i + 1)) w v 0 (λ o. omega arith) ∙ get_or-set_other ls (to_cell + 2 * i) w u 0 (λ o. omega arith)

  -- The next arcs, of this stream and of another.
  own_next : (f : Bool) → get_or all (next_cell + arc_of i f) 0 ≡ pick f x y
  own_next true =
      high (next_cell + (2 * i + 1)) (omega arith) ∙ get_or-set_other l3 (next_cell + 2 * i) (next_cell + (2 * i + 1)) y 0 (λ o. omega arith)
      ∙ get_or-set_same l2 (next_cell + (2 * i + 1)) x 0 (omega (arith, long2))
  own_next false =
      let e : 2 * i + 0 ≡ 2 * i = omega arith in
      rw e (high (next_cell + 2 * i) (omega arith) ∙ get_or-set_same l3 (next_cell + 2 * i) y 0 (omega (arith, long3)))

  other_next : (k : ℕ) (f : Bool) → (k ≡ i → ⊥) → get_or all (next_cell + arc_of k f) 0 ≡ get_or ls (next_cell + arc_of k f) 0
  other_next k true q =
      high (next_cell + (2 * k + 1)) (omega arith) ∙ get_or-set_other l3 (next_cell + 2 * i) (next_cell + (2 * k + 1)) y 0 (λ o. omega arith)
      ∙ get_or-set_other l2 (next_cell + (2 * i + 1)) (next_cell + (2 * k + 1)) x 0 (λ o. q (omega arith))
      ∙ get_or-set_other l1 (to_cell + (2 * i + 1)) (next_cell + (2 * k + 1)) v 0 (λ o. omega arith) ∙ get_or-set_other ls (to_cell + 2 * i) (next_cell + (2 * k + 1)) u 0 (λ o. omega arith)
  other_next k false q =
      high (next_cell + (2 * k + 0)) (omega arith) ∙ get_or-set_other l3 (next_cell + 2 * i) (next_cell + (2 * k + 0)) y 0 (λ o. q (omega arith))
      ∙ get_or-set_other l2 (next_cell + (2 * i + 1)) (next_cell + (2 * k + 0)) x 0 (λ o. omega arith)
      ∙ get_or-set_other l1 (to_cell + (2 * i + 1)) (next_cell + (2 * k + 0)) v 0 (λ o. omega arith) ∙ get_or-set_other ls (to_cell + 2 * i) (next_cell + (2 * k + 0)) u 0 (λ o. omega arith)

  -- One stream more is in the lists.
  pub arc_step : (fs ts : List ℕ) → u ≡ get_or fs i 0 → v ≡ get_or ts i 0 → x ≡ get_or ls u 0 → y ≡ get_or ls v 0 → Listed i fs ts ls → Listed (i + 1) fs ts all
  unfolding arc_at
  arc_step fs ts iu iv ix iy h = record {
    long = all_long;
    first = λ w b. let e : suc i ≡ i + 1 = omega arith in
        at_first w b ∙ rw (iu, iv, h.first w b) refl ∙ ap (λ (m : ℕ). arc_at fs ts w m) e;
    next = λ k f b. elim (ℕ_discrete k i) [
      | yes q ↦ rw q (own_next f ∙ one f)
      | no q ↦ other_next k f q ∙ h.next k f (omega arith)
    ];
    starts = below_more _ i
        (λ k b. ends (to_cell + 2 * k) (omega arith) (omega arith) ∙ get_or-set_other l1 (to_cell + (2 * i + 1)) (to_cell + 2 * k) v 0 (λ o. omega arith)
        ∙ get_or-set_other ls (to_cell + 2 * i) (to_cell + 2 * k) u 0 (λ o. omega arith) ∙ h.starts k b)
        (ends (to_cell + 2 * i) (omega arith) (omega arith) ∙ get_or-set_other l1 (to_cell + (2 * i + 1)) (to_cell + 2 * i) v 0 (λ o. omega arith)
        ∙ get_or-set_same ls (to_cell + 2 * i) u 0 (omega arith) ∙ iu);
    ends = below_more _ i
        (λ k b. ends (to_cell + (2 * k + 1)) (omega arith) (omega arith) ∙ get_or-set_other l1 (to_cell + (2 * i + 1)) (to_cell + (2 * k + 1)) v 0 (λ o. omega arith)
        ∙ get_or-set_other ls (to_cell + 2 * i) (to_cell + (2 * k + 1)) u 0 (λ o. omega arith) ∙ h.ends k b)
        (ends (to_cell + (2 * i + 1)) (omega arith) (omega arith)
        ∙ get_or-set_same l1 (to_cell + (2 * i + 1)) v 0 (omega (arith, length-set ls (to_cell + 2 * i) u)) ∙ iv);
  }
    where
      one : (f : Bool) → pick f x y ≡ arc_at fs ts (pick f (get_or fs i 0) (get_or ts i 0)) i
      one true = ix ∙ h.first u lu ∙ ap (λ (w : ℕ). arc_at fs ts w i) iu
      one false = iy ∙ h.first v lv ∙ ap (λ (w : ℕ). arc_at fs ts w i) iv

-- None yet.
listed_none : (fs ts ls : List ℕ) → length ls ≡ arc_cells → ((u : ℕ) → u < places → get_or ls u 0 ≡ 2 * max_streams) → Listed 0 fs ts ls
unfolding arc_at
listed_none fs ts ls h none = record { long = h; first = none; next = λ k f b. absurd (omega arith); starts = below_none _; ends = below_none _ }

-- After the count was stored.
pub listed_counted : (fs ts ls : List ℕ) (n : ℕ) → length ls ≡ arc_cells → ((u : ℕ) → u < places → get_or ls u 0 ≡ 2 * max_streams)
    → Listed 0 fs ts (set ls count_cell n) × (count_of (set ls count_cell n) ≡ n)
listed_counted fs ts ls n h none = (
  listed_none fs ts _ (length-set ls count_cell n ∙ h) (λ u l. get_or-set_other ls count_cell u n 0 (λ o. omega arith) ∙ none u l),
  get_or-set_same ls count_cell n 0 (omega arith),
)

-- All of them.
module _ (streams : List Stream) (n : ℕ) (w : Network streams n) (ls : List ℕ) (h : Listed n (starts_in streams n) (ends_in streams n) ls) (c : count_of ls ≡ n) where
  same_starts : starts_of ls ≡ starts_in streams n
  unfolding starts_of starts_in
  same_starts = rw c (values_same n (λ k. get_or ls (to_cell + 2 * k) 0) (λ k. (get_or streams k no_stream).from) (λ k l. h.starts k l ∙ starts_in_lem streams n k l))

  same_ends : ends_of ls ≡ ends_in streams n
  unfolding ends_of ends_in
  same_ends = rw c (values_same n (λ k. get_or ls (to_cell + (2 * k + 1)) 0) (λ k. (get_or streams k no_stream).to) (λ k l. h.ends k l ∙ ends_in_lem streams n k l))

  -- Arcs with all streams in the lists are laid.
  pub laid_arcs : LaidArcs streams n ls
  laid_arcs = record {
    counted = c;
    linked = record {
      few = rw c w.within.few_streams;
      from_in = λ k b. let l : k < n = rw c at b in rw (same_starts, starts_in_lem streams n k l) (omega (arith, (w.within.each k l).from_in));
      to_in = λ k b. let l : k < n = rw c at b in rw (same_ends, ends_in_lem streams n k l) (omega (arith, (w.within.each k l).to_in));
      first = λ u b. rw (same_starts, same_ends, c) (h.first u b);
      next = λ k f b. let l : k < n = rw c at b in rw (same_starts, same_ends) (h.next k f l);
    };
    starts = λ k l. rw same_starts (starts_in_lem streams n k l);
    ends = λ k l. rw same_ends (ends_in_lem streams n k l);
  }

-- The rows.
pub rowed_none : (streams : List Stream) (rs : List ℕ) → length rs ≡ row_cells → Rowed streams 0 rs
rowed_none streams rs h = record { long = h; weights = below_none _; pulls = below_none _; lows = below_none _; highs = below_none _; pulled = below_none _ }

module _ (i a b c d : ℕ) (rs : List ℕ) (low : i < max_streams) (long : length rs ≡ row_cells) where
  abbrev row : List ℕ
  row = set (set (set (set rs (4 * i) a) (4 * i + 1) b) (4 * i + 2) c) (4 * i + 3) d

  abbrev r1 : List ℕ
  r1 = set rs (4 * i) a

  abbrev r2 : List ℕ
  r2 = set r1 (4 * i + 1) b

  abbrev r3 : List ℕ
  r3 = set r2 (4 * i + 2) c

  len1 : length r1 ≡ row_cells
  len1 = length-set rs (4 * i) a ∙ long

  len2 : length r2 ≡ row_cells
  len2 = length-set r1 (4 * i + 1) b ∙ len1

  len3 : length r3 ≡ row_cells
  len3 = length-set r2 (4 * i + 2) c ∙ len2

  row_long : length row ≡ row_cells
  row_long = length-set r3 (4 * i + 3) d ∙ len3

  row_other : (k j : ℕ) → k < i → j < 4 → get_or row (4 * k + j) 0 ≡ get_or rs (4 * k + j) 0
  row_other k j l m =
      get_or-set_other r3 (4 * i + 3) (4 * k + j) d 0 (λ o. omega arith) ∙ get_or-set_other r2 (4 * i + 2) (4 * k + j) c 0 (λ o. omega arith)
      ∙ get_or-set_other r1 (4 * i + 1) (4 * k + j) b 0 (λ o. omega arith) ∙ get_or-set_other rs (4 * i) (4 * k + j) a 0 (λ o. omega arith)

  row_first : (k : ℕ) → k < i → get_or row (4 * k) 0 ≡ get_or rs (4 * k) 0
  row_first k l = let e : 4 * k + 0 ≡ 4 * k = omega arith in rw e at (row_other k 0 l (omega arith))

  at0 : get_or row (4 * i) 0 ≡ a
  at0 = get_or-set_other r3 (4 * i + 3) (4 * i) d 0 (λ o. omega arith) ∙ get_or-set_other r2 (4 * i + 2) (4 * i) c 0 (λ o. omega arith)
      ∙ get_or-set_other r1 (4 * i + 1) (4 * i) b 0 (λ o. omega arith) ∙ get_or-set_same rs (4 * i) a 0 (omega arith)

  at1 : get_or row (4 * i + 1) 0 ≡ b
  at1 = get_or-set_other r3 (4 * i + 3) (4 * i + 1) d 0 (λ o. omega arith) ∙ get_or-set_other r2 (4 * i + 2) (4 * i + 1) c 0 (λ o. omega arith)
      ∙ get_or-set_same r1 (4 * i + 1) b 0 (omega (arith, len1))

  at2 : get_or row (4 * i + 2) 0 ≡ c
  at2 = get_or-set_other r3 (4 * i + 3) (4 * i + 2) d 0 (λ o. omega arith) ∙ get_or-set_same r2 (4 * i + 2) c 0 (omega (arith, len2))

  at3 : get_or row (4 * i + 3) 0 ≡ d
  at3 = get_or-set_same r3 (4 * i + 3) d 0 (omega (arith, len3))

  -- One stream more has its row.
  pub rowed_more : (streams : List Stream) → a ≡ weight_of (get_or streams i no_stream) → b ≡ 2 * (weight_of (get_or streams i no_stream) * reading_of (get_or streams i no_stream)) → b ≤ 2 * most_pull
      → c ≡ low_of (get_or streams i no_stream) → d ≡ high_of (get_or streams i no_stream) → Rowed streams i rs → Rowed streams (i + 1) row
  rowed_more streams ea eb pulled ec ed h = record {
    long = row_long;
    weights = below_more _ i (λ k l. row_first k l ∙ h.weights k l) (at0 ∙ ea);
    pulls = below_more _ i (λ k l. row_other k 1 l (omega arith) ∙ h.pulls k l) (at1 ∙ eb);
    lows = below_more _ i (λ k l. row_other k 2 l (omega arith) ∙ h.lows k l) (at2 ∙ ec);
    highs = below_more _ i (λ k l. row_other k 3 l (omega arith) ∙ h.highs k l) (at3 ∙ ed);
    pulled = below_more _ i (λ k l. rw (row_other k 1 l (omega arith)) (h.pulled k l)) (rw at1 pulled);
  }

-- Laws of a spanning forest.
use Rattle.std.proofs.Common.{◌≡◌, ℕ, suc, ◌+◌, ◌*◌, ◌<◌, ◌≤◌, Bool, true, false, eqb, List, length, get_or, take, set, ◌∙◌, arith, length-set, get_or-set_other, get_or-set_same, below_more, eqb-true}
use Rattle.std.specs.Int.{from_bool}
use Rattle.num_bytes.proofs.Tests.{by_cases}
use Rattle.plant_def.specs.declared.Stream.{Stream}
use Rattle.plant_def.specs.Limits.{places, max_units}
use Rattle.std.proofs.lemmas.List.{get_or-take}
use lib.ListN.{length-take}
use Rattle.solve_forest.specs.Forests.{Spanning, Unmetered, Listed, ListedOf, FreeOf}
use Rattle.solve_def.specs.Counts.{count_places}
use Rattle.solve_arcs.specs.Cells.{count_of}
use Rattle.solve_arcs.specs.ArcNeeds.{Laying}
use Rattle.solve_arcs.proofs.Rowing.{below, free_of}
use Rattle.solve_def.proofs.Counting.{count_most, count_more}

-- A forest has no more streams than there are places.
pub spanning_short : {reached : List Bool} {via : List ℕ} {into : List Bool} {len : ℕ} → Spanning reached via into len → len ≤ places
spanning_short {reached} s = omega (arith, s.few, count_most max_units (λ u. get_or reached u false))

-- Of listed streams the first n, as a slice.
pub listed_first : {ls rs listed : List ℕ} {n : ℕ} → FreeOf ls rs listed n → ListedOf ls rs (take n listed) (length (take n listed))
listed_first {ls} {rs} {listed} {n} f w k l =
    let m : k < n = omega (arith, length-take n listed) in
    rw (get_or-take n listed k 0 m) (f.each w k m)

-- One place more, e over stream i.
module _ {reached : List Bool} {via : List ℕ} {into : List Bool} {len : ℕ} (s : Spanning reached via into len) (e : ℕ) (l : e < places) (free : get_or reached e false ≡ false) where
  more : count_places max_units (λ u. get_or (set reached e true) u false) ≡ suc (count_places max_units (λ u. get_or reached u false))
  more =
      count_more max_units e (λ u. get_or reached u false) (λ u. get_or (set reached e true) u false) (omega arith) free
      (get_or-set_same reached e true false (rw s.reaches l))
      (λ u q. get_or-set_other reached e u true false q)

  -- There is room for one stream more.
  pub spanning_room : len < places
  spanning_room = omega (arith, s.few, more, count_most max_units (λ u. get_or (set reached e true) u false))

  -- One place more is reached.
  pub spanning_grown : (i : ℕ) (b : Bool) → Spanning (set reached e true) (set via len i) (set into len b) (len + 1)
  spanning_grown i b = record {
    reaches = length-set reached e true ∙ s.reaches;
    vias = length-set via len i ∙ s.vias;
    intos = length-set into len b ∙ s.intos;
    few = omega (arith, s.few, more);
  }

  -- Over an unmetered stream.
  pub listed_grown : (i : ℕ) (ss : List Stream) (n : ℕ) → Unmetered ss n i → Listed ss n via len → Listed ss n (set via len i) (len + 1)
  listed_grown i ss n m h =
      below_more (λ k. Unmetered ss n (get_or (set via len i) k 0)) len
      (λ k lt. rw (get_or-set_other via len k i 0 (λ q. omega arith)) (h k lt))
      (rw (get_or-set_same via len i 0 (rw s.vias spanning_room)) m)

-- One stream more is listed where it is unmetered; where it is not, the next one is written over it.
module _ {ls rs : List ℕ} (listed : List ℕ) {n : ℕ} (h : ListedOf ls rs listed n) (room : n < length listed) (i : ℕ) (l : i < count_of ls) where
  kept : (w : Laying ls rs) → Listed w.streams w.n (set listed n i) n
  kept w k lt = rw (get_or-set_other listed n k i 0 (λ q. omega arith)) (h w k lt)

  -- So with what is added to the number, 1 or 0.
  pub listed_turn : (r : ℕ) → r ≡ from_bool (eqb (get_or rs (4 * i) 0) 0) → ListedOf ls rs (set listed n i) (n + r)
  listed_turn r e =
      by_cases (eqb (get_or rs (4 * i) 0) 0)
      (λ t. let one : r ≡ 1 = rw t at e in
      let z : get_or rs (4 * i) 0 ≡ 0 = eqb-true (get_or rs (4 * i) 0) 0 t in
      rw one (λ w. below_more (λ k. Unmetered w.streams w.n (get_or (set listed n i) k 0)) n (kept w)
      (rw (get_or-set_same listed n i 0 room) (below ls rs w i l, free_of ls rs w i l (omega arith)))))
      (λ t. let none : n + r ≡ n = let z : r ≡ 0 = rw t at e in omega arith in rw none kept)

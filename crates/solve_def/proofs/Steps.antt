-- One round of a walk, for the code's loop: what it comes to, and what its step says of the nearest place.
use mathlib.Core.Path.{◌≡◌, refl, sym, ◌∙◌, ap}
use mathlib.Core.Bool.{true, false}
use mathlib.Core.List.{List}
use Prim.Native.Nat.{ℕ, zero, suc, ◌-◌, ◌/◌, ◌%◌, ◌≤◌, ◌<◌, ◌^◌}
use native.Mathlib.Omega.{arith}
use native.Mathlib.Decide.{ℕ_discrete}
use borrow.Author.Tests.{ltb-true, ltb-false, lt-ltb, le-ltb, eq-eqb, ne_eqb}
use lib.Dec.{ltb}
use lib.ListN.{length, get_or, set, length-set}
use Rattle.num_bytes.proofs.Tests.{by_cases}
use Rattle.num_bytes.proofs.Filled.{get_d_any}
use Rattle.plant_def.specs.Limits.{places}
use Rattle.solve_def.specs.declared.Tree.{Tree}
use Rattle.solve_def.specs.Sizes.{net_shift, numbering, far, farthest}
use Rattle.solve_def.specs.Search.{added_to}
use Rattle.solve_def.specs.Near.{relaxed_to, nearest_to, nearest_within, walked_by, walked}
use Rattle.solve_def.proofs.Filling.{relaxed_all_long}
use Rattle.solve_def.proofs.Nearing.{nearest_is}
use native.Mathlib.Nat.{div-add-mod}
use lib.Bits.{bit_xor}
use Rattle.solve_def.specs.declared.Spot.{Spot}
use Rattle.solve_def.specs.Fringe.{Fringe, Stepped}
use Rattle.solve_def.proofs.Fringes.{fringe_visited}

module _ (fs ts gs bs : List ℕ) (n : ℕ) (es : List ℕ) (limit k e : ℕ) (ks near : List ℕ) (t : Tree) (codes : List ℕ) (is : codes ≡ relaxed_to fs ts gs bs t.visited k e n near)
    (r : ℕ) (nearest : r ≡ nearest_to codes places) where
  -- No stream leads on; the nearest place is too far; it has a negative net; or it has not.
  pub walk_none : (l : ℕ) → 0 < l → r ≡ places → walked fs ts gs bs n es limit l k e ks near t ≡ walked_by false t ks k
  unfolding walked
  walk_none zero p q = absurd (omega arith)
  walk_none (suc l) p q = rw (← is, ← nearest, eq-eqb r places q)

  -- The nearest place is too far.
  pub walk_far : (l : ℕ) → 0 < l → (r ≡ places → ⊥) → limit < get_or codes r 0 / numbering → walked fs ts gs bs n es limit l k e ks near t ≡ walked_by false t ks k
  unfolding walked
  walk_far zero p q h = absurd (omega arith)
  walk_far (suc l) p q h = rw (← is, ← nearest, ne_eqb r places q, lt-ltb limit (get_or codes r 0 / numbering) h)

  -- It has a negative net.
  pub walk_hit : (l : ℕ) → 0 < l → (r ≡ places → ⊥) → get_or codes r 0 / numbering ≤ limit → get_or es r 0 < net_shift
      → walked fs ts gs bs n es limit l k e ks near t
      ≡ walked_by true (added_to t (get_or codes r 0 % numbering) r) (set ks r (get_or codes r 0 / numbering)) (get_or codes r 0 / numbering)
  unfolding walked
  walk_hit zero p q h m = absurd (omega arith)
  walk_hit (suc l) p q h m = rw (← is, ← nearest, ne_eqb r places q, le-ltb limit (get_or codes r 0 / numbering) h, lt-ltb (get_or es r 0) net_shift m)

  -- It has none, and the walk goes on.
  pub walk_more : (l : ℕ) → 0 < l → (r ≡ places → ⊥) → get_or codes r 0 / numbering ≤ limit → net_shift ≤ get_or es r 0
      → walked fs ts gs bs n es limit l k e ks near t
      ≡ walked fs ts gs bs n es limit (l - 1) (get_or codes r 0 / numbering) r (set ks r (get_or codes r 0 / numbering)) (set codes r far) (added_to t (get_or codes r 0 % numbering) r)
  unfolding walked
  walk_more zero p q h m = absurd (omega arith)
  walk_more (suc l) p q h m =
      let z : suc l - 1 ≡ l = omega arith in
      rw (z, ← is, ← nearest, ne_eqb r places q, le-ltb limit (get_or codes r 0 / numbering) h, le-ltb (get_or es r 0) net_shift m)

-- The nearest place within the limit is the nearest; where there is none, the walk ends.
pub within_is : (codes : List ℕ) (limit r : ℕ) → length codes ≡ places → r ≡ nearest_within codes limit → (r ≡ places → ⊥)
    → (r ≡ nearest_to codes places) × (get_or codes r 0 / numbering ≤ limit)
within_is codes limit r long e q = by_cases (ltb limit (get_or codes (nearest_to codes places) far / numbering))
    (λ t. absurd (q (e ∙ rw t)))
    (λ t.
    let is : r ≡ nearest_to codes places = e ∙ rw t in
    (is, rw (get_d_any codes r 0 far (rw long (nearest_is codes r long is q).0), is) (ltb-false _ _ t)))

-- No place is within the limit.
pub walk_stop : (fs ts gs bs : List ℕ) (n : ℕ) (es : List ℕ) (limit k e : ℕ) (ks near : List ℕ) (t : Tree) (codes : List ℕ)
    → codes ≡ relaxed_to fs ts gs bs t.visited k e n near → length codes ≡ places → (r : ℕ) → r ≡ nearest_within codes limit
    → (l : ℕ) → 0 < l → r ≡ places → walked fs ts gs bs n es limit l k e ks near t ≡ walked_by false t ks k
walk_stop fs ts gs bs n es limit k e ks near t codes is long r w l p q = elim (ℕ_discrete (nearest_to codes places) places) [
  | yes o ↦ walk_none fs ts gs bs n es limit k e ks near t codes is (nearest_to codes places) refl l p o
  | no o ↦ by_cases (ltb limit (get_or codes (nearest_to codes places) far / numbering))
      (λ h. walk_far fs ts gs bs n es limit k e ks near t codes is (nearest_to codes places) refl l p o
      (rw (get_d_any codes (nearest_to codes places) 0 far (rw long (nearest_is codes (nearest_to codes places) long refl o).0)) (ltb-true _ _ h)))
      (λ h. absurd (o (sym (w ∙ rw h) ∙ q)))
]

-- No rounds are left.
pub walk_end : (fs ts gs bs : List ℕ) (n : ℕ) (es : List ℕ) (limit k e : ℕ) (ks near : List ℕ) (t : Tree)
    → walked fs ts gs bs n es limit 0 k e ks near t ≡ walked_by false t ks k
unfolding walked
walk_end fs ts gs bs n es limit k e ks near t = refl

-- None is within the limit; or one is.
pub step_none : (limit : ℕ) (codes : List ℕ) (k e f : ℕ) (near : List ℕ) → e ≡ nearest_within codes limit → e ≡ places
    → Stepped limit codes k near (record { place = places; distance = k; stream = 0; fringe = f })
step_none limit codes k e f near w q = record {
  place = sym q ∙ w;
  none = λ o. refl;
  distance = λ o. absurd (o refl);
  stream = λ o. absurd (o refl);
  taken = λ o. absurd (o refl);
  fringe = λ o. absurd (o refl);
}

module _ (limit : ℕ) (codes : List ℕ) (e f : ℕ) (long : length codes ≡ places) (o : Fringe limit codes f) (w : e ≡ nearest_within codes limit) (q : e ≡ places → ⊥) where
  -- The nearest place is a place, and its code one.
  pub step_in : (e < places) × (get_or codes e 0 < far)
  step_in = nearest_is codes e long (within_is codes limit e long w q).0 q

  -- What a step says that takes it.
  pub step_some : (k own : ℕ) → own ≡ 2 ^ e
      → Stepped limit codes k (set codes e far) (record { place = e; distance = get_or codes e 0 / numbering; stream = get_or codes e 0 % numbering; fringe = bit_xor f own })
  step_some k own is = record {
    place = w;
    none = λ z. absurd (q z);
    distance = λ z. refl;
    stream = λ z. refl;
    taken = λ z. refl;
    fringe = λ z.
        rw is (fringe_visited limit codes f e o step_in.0 long (o.all e step_in.0 step_in.1 (within_is codes limit e long w q).1));
  }

-- The walk by its steps.
module _ (fs ts gs bs : List ℕ) (n : ℕ) (es : List ℕ) (limit k e : ℕ) (ks near : List ℕ) (t : Tree) (long : length near ≡ places) (next : List ℕ)
    (r : Spot) (w : Stepped limit (relaxed_to fs ts gs bs t.visited k e n near) k next r) where
  abbrev codes : List ℕ
  codes = relaxed_to fs ts gs bs t.visited k e n near

  codes_long : length codes ≡ places
  codes_long = relaxed_all_long fs ts gs bs t.visited k e n near ∙ long

  -- No place is taken: the walk stops.
  pub step_stops : (l : ℕ) → 0 < l → r.place ≡ places → walked fs ts gs bs n es limit l k e ks near t ≡ walked_by false t ks r.distance
  step_stops l p q =
      walk_stop fs ts gs bs n es limit k e ks near t codes refl codes_long r.place w.place l p q ∙ ap (walked_by false t ks) (sym (w.none q))

  module _ (q : r.place ≡ places → ⊥) where
    is : (r.place ≡ nearest_to codes places) × (get_or codes r.place 0 / numbering ≤ limit)
    is = within_is codes limit r.place codes_long w.place q

    one : (r.place < places) × (get_or codes r.place 0 < far)
    one = nearest_is codes r.place codes_long is.0 q

    -- The place that is taken is a place.
    pub step_place : r.place < places
    step_place = one.0

    -- Its distance is below farthest.
    pub step_distance : r.distance < farthest
    step_distance = rw (w.distance q) (omega (arith, one.1, div-add-mod (get_or codes r.place 0) 128))

    -- As many codes as before.
    pub step_long : length next ≡ places
    step_long = rw (w.taken q) (length-set codes r.place far ∙ codes_long)

    -- It has a negative net: the walk ends there.
    pub step_hits : (l : ℕ) → 0 < l → get_or es r.place 0 < net_shift
        → walked fs ts gs bs n es limit l k e ks near t ≡ walked_by true (added_to t r.stream r.place) (set ks r.place r.distance) r.distance
    step_hits l p h =
        walk_hit fs ts gs bs n es limit k e ks near t codes refl r.place is.0 l p q is.1 h ∙ rw (w.distance q, w.stream q)

    -- It has none: the walk goes on.
    pub step_goes_on : (l : ℕ) → 0 < l → net_shift ≤ get_or es r.place 0
        → walked fs ts gs bs n es limit l k e ks near t
        ≡ walked fs ts gs bs n es limit (l - 1) r.distance r.place (set ks r.place r.distance) next (added_to t r.stream r.place)
    step_goes_on l p h =
        walk_more fs ts gs bs n es limit k e ks near t codes refl r.place is.0 l p q is.1 h ∙ rw (w.distance q, w.stream q, w.taken q)

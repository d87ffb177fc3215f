-- The codes that a walk keeps: what an offer changes.
use mathlib.Core.Path.{◌≡◌, refl, sym, ◌∙◌, ap}
use mathlib.Core.Bool.{Bool, true, false}
use mathlib.Core.List.{List}
use mathlib.Core.Logic.{◌⊎◌, inl, inr, ⊎_elim}
use Prim.Native.Nat.{ℕ, ◌+◌, ◌*◌, ◌/◌, ◌%◌, ◌^◌, ◌≤◌, ◌<◌, min}
use native.Mathlib.Omega.{arith}
use native.Mathlib.Decide.{ℕ_discrete}
use mir.Val.{bool_byte}
use borrow.Author.Tests.{ltb-true, ltb-false, le-ltb}
use lib.Bits.{bit_or, or_zero_r}
use lib.Dec.{ltb}
use lib.ListN.{length, get_or, set, length-set}
use lib.Seq.{ext_get_or, get_or-set_same, get_or-set_other, set-get_or}
use Rattle.num_bytes.specs.Choice.{pick}
use Rattle.num_bytes.proofs.Tests.{by_cases, clash, or_cases, picked}
use Rattle.plant_def.specs.Limits.{places, max_streams}
use Rattle.num_bytes.specs.Sums.{bit}
use Rattle.num_bytes.proofs.Lists.{values_at, values_long}
use Rattle.num_bytes.proofs.Binary.{bit_or_lem, bit_zero, bit_other}
use Rattle.flow_def.proofs.Passed.{shifted}
use Rattle.solve_def.specs.Sizes.{far, farthest, numbering}
use Rattle.solve_def.specs.Near.{code_of, lessened, arc_at, relaxed_along, relaxed_to}
use Rattle.solve_def.specs.Fringe.{fringe_bit}
use Rattle.solve_def.proofs.Fringes.{fringe_offered}
use Rattle.solve_arcs.specs.Cells.{to_cell, next_cell, count_of, starts_of, ends_of}
use Rattle.solve_arcs.specs.Margins.{reduced_cost, reduced_costs}
use Rattle.solve_arcs.specs.ArcNeeds.{Linked}
use Rattle.solve_arcs.proofs.Passing.{along_visited, along_unvisited, all_passed, low, low_all, head_in, next_is, passed}
use Rattle.solve_path.specs.Codes.{shown, Coded, Looked}

-- The code of a place as the definition has it.
pub shown_at : (vs : List Bool) (near : List ℕ) (v : ℕ) → v < places → get_or (shown vs near) v 0 ≡ pick (get_or vs v false) far (get_or near v 0)
unfolding shown
shown_at vs near v l = values_at (λ v. pick (get_or vs v false) far (get_or near v 0)) 0 places v l

-- As many codes as places.
pub shown_long : (vs : List Bool) (near : List ℕ) → length (shown vs near) ≡ places
unfolding shown
shown_long vs near = values_long (λ v. pick (get_or vs v false) far (get_or near v 0)) places

-- That of a place that is not visited is the one that is kept.
pub shown_fringe : (vs : List Bool) (near : List ℕ) (v : ℕ) → v < places → get_or vs v false ≡ false → get_or (shown vs near) v 0 ≡ get_or near v 0
shown_fringe vs near v l o = shown_at vs near v l ∙ rw o

-- A store at a place that is not visited.
shown_set : (vs : List Bool) (near : List ℕ) (v c : ℕ) → v < places → length near ≡ places → get_or vs v false ≡ false
    → shown vs (set near v c) ≡ set (shown vs near) v c
shown_set vs near v c l long o =
    ext_get_or 0 (shown vs (set near v c)) (set (shown vs near) v c)
    (shown_long vs (set near v c) ∙ sym (length-set (shown vs near) v c ∙ shown_long vs near))
    (λ u b. each u (rw (shown_long vs (set near v c)) at b))
  where
    each : (u : ℕ) → u < places → get_or (shown vs (set near v c)) u 0 ≡ get_or (set (shown vs near) v c) u 0
    each u b = elim (ℕ_discrete u v) [
      | yes q ↦ rw q (shown_fringe vs (set near v c) v l o ∙ get_or-set_same near v c 0 (rw long l) ∙ sym (get_or-set_same (shown vs near) v c 0 (rw (shown_long vs near) l)))
      | no q ↦ shown_at vs (set near v c) u b ∙ ap (pick (get_or vs u false) far) (get_or-set_other near v u c 0 q)
          ∙ sym (get_or-set_other (shown vs near) v u c 0 q ∙ shown_at vs near u b)
    ]

module _ (limit : ℕ) (vs : List Bool) (near : List ℕ) (m v k g i : ℕ) (w : Coded limit vs near m) (l : v < places) (long : length near ≡ places) (few : i < max_streams) where
  -- The codes after an offer.
  abbrev pub offered : List ℕ
  offered = lessened near v (code_of (k + g) i)

  -- The fringe after it.
  abbrev pub widened : ℕ
  widened = bit_or m (fringe_bit far near v (k + g) i)

  -- To a visited place: nothing changes.
  module _ (o : get_or vs v false ≡ true) where
    not_less : ltb (code_of (k + g) i) (get_or near v 0) ≡ false
    not_less = le-ltb (code_of (k + g) i) (get_or near v 0) (omega (arith, w.zero v l o))

    same_codes : offered ≡ near
    same_codes = rw not_less

    same_fringe : widened ≡ m
    same_fringe = rw not_less (or_zero_r m)

  -- To another.
  module _ (o : get_or vs v false ≡ false) where
    here : get_or (shown vs near) v 0 ≡ get_or near v 0
    here = shown_fringe vs near v l o

    less_shown : shown vs offered ≡ lessened (shown vs near) v (code_of (k + g) i)
    less_shown = rw here (by_cases (ltb (code_of (k + g) i) (get_or near v 0))
        (λ t. rw t (shown_set vs near v (code_of (k + g) i) l long o))
        (λ t. rw t))

    same_bit : fringe_bit limit (shown vs near) v (k + g) i ≡ fringe_bit far near v (k + g) i
    same_bit = rw here (by_cases (ltb (code_of (k + g) i) (get_or near v 0))
        (λ t.
        let b : k + g ≤ limit = omega (arith, ltb-true (code_of (k + g) i) (get_or near v 0) t, w.capped v l) in
        rw (t, le-ltb limit (k + g) b, le-ltb far (k + g) (omega (arith, b, w.low))))
        (λ t. rw t))

    own : (h : ℕ) → bit h (fringe_bit far near v (k + g) i) ≡ true → h ≡ v
    own h = picked (λ (x : ℕ). bit h x ≡ true → h ≡ v) (ltb (code_of (k + g) i) (get_or near v 0)) _ _
        (λ t. picked (λ (x : ℕ). bit h x ≡ true → h ≡ v) (ltb far (k + g)) 0 (2 ^ v)
        (λ s b. clash (bit h 0) b (bit_zero h))
        (λ s b. elim (ℕ_discrete h v) [ yes q ↦ q | no q ↦ clash (bit h (2 ^ v)) b (bit_other h v q) ]))
        (λ t b. clash (bit h 0) b (bit_zero h))

    -- A code that is taken in is below what no code is above.
    taken_in : ltb (code_of (k + g) i) (get_or near v 0) ≡ true → (h : ℕ) → (get_or near h 0 < (limit + 1) * numbering) ⊎ (h ≡ v) → get_or offered h 0 < (limit + 1) * numbering
    taken_in t h o = rw t (elim (ℕ_discrete h v) [
      | yes q ↦ rw (q, get_or-set_same near v (code_of (k + g) i) 0 (rw long l)) (omega (arith, ltb-true (code_of (k + g) i) (get_or near v 0) t, w.capped v l))
      | no q ↦ rw (get_or-set_other near v h (code_of (k + g) i) 0 q) (⊎_elim (λ x. x) (λ x. absurd (q x)) o)
    ])

    still : (h : ℕ) → ltb (code_of (k + g) i) (get_or near v 0) ≡ false → bit h widened ≡ bit h m
    still h t = ap (bit h) (rw t (or_zero_r m))

    new_capped : (u : ℕ) → u < places → get_or offered u 0 ≤ (limit + 1) * numbering
    new_capped u b = picked (λ (ns : List ℕ). get_or ns u 0 ≤ (limit + 1) * numbering) (ltb (code_of (k + g) i) (get_or near v 0)) (set near v (code_of (k + g) i)) near
        (λ t. elim (ℕ_discrete u v) [
          | yes q ↦ rw (q, get_or-set_same near v (code_of (k + g) i) 0 (rw long l)) (omega (arith, ltb-true (code_of (k + g) i) (get_or near v 0) t, w.capped v l))
          | no q ↦ rw (get_or-set_other near v u (code_of (k + g) i) 0 q) (w.capped u b)
        ])
        (λ t. w.capped u b)

    new_within : (h : ℕ) → bit h widened ≡ true → get_or offered h 0 < (limit + 1) * numbering
    new_within h b = by_cases (ltb (code_of (k + g) i) (get_or near v 0))
        (λ t. taken_in t h
        (or_cases (bit h m) (bit h (fringe_bit far near v (k + g) i)) (sym (bit_or_lem h m (fringe_bit far near v (k + g) i)) ∙ b) (λ o. inl (w.within h o)) (λ o. inr (own h o))))
        (λ t. let z : bit h m ≡ true = sym (still h t) ∙ b in rw t (w.within h z))

    new : Coded limit vs offered widened
    new = record {
      low = w.low;
      capped = new_capped;
      within = new_within;
      zero = λ u b e. picked (λ (ns : List ℕ). get_or ns u 0 ≡ 0) (ltb (code_of (k + g) i) (get_or near v 0)) (set near v (code_of (k + g) i)) near
          (λ t. get_or-set_other near v u (code_of (k + g) i) 0 (λ q. clash (get_or vs u false) e (ap (λ (x : ℕ). get_or vs x false) q ∙ o)) ∙ w.zero u b e)
          (λ t. w.zero u b e);
      fresh = λ h b. or_cases (bit h m) (bit h (fringe_bit far near v (k + g) i)) (sym (bit_or_lem h m (fringe_bit far near v (k + g) i)) ∙ b) (w.fresh h) (λ q. rw (own h q) o);
      fringe = rw (less_shown, ← same_bit) (fringe_offered limit (shown vs near) m v (k + g) i w.fringe l (shown_long vs near) (omega arith));
    }

  offered_coded : Coded limit vs offered widened
  offered_coded = by_cases (get_or vs v false) (λ o. rw (same_codes o, same_fringe o) w) new

  offered_along : shown vs offered ≡ relaxed_along vs k v g i (shown vs near)
  offered_along = by_cases (get_or vs v false)
      (λ o. ap (shown vs) (same_codes o) ∙ along_visited vs k v g i (shown vs near) o)
      (λ o. less_shown o ∙ along_unvisited vs k v g i (shown vs near) o)

-- The code is stored in any case; and the bit.
pub stored : (near : List ℕ) (v c : ℕ) → set near v (min (get_or near v 0) c) ≡ lessened near v c
stored near v c = by_cases (ltb c (get_or near v 0)) (λ t. rw (t, less t)) (λ t. rw (t, more t) (set-get_or near v 0))
  where
    less : ltb c (get_or near v 0) ≡ true → min (get_or near v 0) c ≡ c
    less t = omega (arith, ltb-true _ _ t)

    more : ltb c (get_or near v 0) ≡ false → min (get_or near v 0) c ≡ get_or near v 0
    more t = omega (arith, ltb-false _ _ t)

-- What the code computes is the place's bit, or 0.
pub bit_of : (near : List ℕ) (v d i : ℕ) → v < places → d < 2 * farthest
    → bool_byte (ltb (code_of d i) (get_or near v 0)) * 2 ^ v % 2 ^ 64 ≡ fringe_bit far near v d i
bit_of near v d i l m = by_cases (ltb (code_of d i) (get_or near v 0)) (λ t. rw (t, within) (shifted v l)) (λ t. rw t (nothing (2 ^ v)))
  where
    within : ltb far d ≡ false
    within = le-ltb far d (omega arith)

    nothing : (x : ℕ) → 0 * x % 2 ^ 64 ≡ 0
    nothing x = let e : 0 * x ≡ 0 = omega arith in rw e

-- The loop over the arcs of place e: those of the first m streams are left.
pub record Turn (ls ms ps : List ℕ) (k e : ℕ) (near₀ : List ℕ) (fringe₀ : ℕ) (near : List ℕ) (fringe arc : ℕ) : Type 0 where
  pub long : length near ≡ places
  pub m : ℕ
  pub few : m ≤ count_of ls
  pub at : arc ≡ arc_at (starts_of ls) (ends_of ls) e m
  pub coded : (limit : ℕ) (vs : List Bool) → Coded limit vs near₀ fringe₀ → Coded limit vs near fringe
  pub same : (limit : ℕ) (vs : List Bool) → Coded limit vs near₀ fringe₀
      → relaxed_to (starts_of ls) (ends_of ls) (reduced_costs ls ms ps true) (reduced_costs ls ms ps false) vs k e m (shown vs near)
      ≡ relaxed_to (starts_of ls) (ends_of ls) (reduced_costs ls ms ps true) (reduced_costs ls ms ps false) vs k e (count_of ls) (shown vs near₀)

module _ (ls ms ps : List ℕ) (k e : ℕ) (near₀ : List ℕ) (fringe₀ : ℕ) where
  -- No arc is gone along yet.
  pub turn_none : length near₀ ≡ places → (arc : ℕ) → arc ≡ arc_at (starts_of ls) (ends_of ls) e (count_of ls) → Turn ls ms ps k e near₀ fringe₀ near₀ fringe₀ arc
  turn_none long arc h = record { long = long; m = count_of ls; few = omega arith; at = h; coded = λ limit vs c. c; same = λ limit vs c. refl }

  module _ (near : List ℕ) (fringe arc : ℕ) (t : Turn ls ms ps k e near₀ fringe₀ near fringe arc) (w : Linked ls) where
    -- All arcs of the place are gone along.
    pub turn_all : 2 * max_streams ≤ arc → (limit : ℕ) (vs : List Bool) → Coded limit vs near₀ fringe₀ → Looked ls ms ps k e near₀ fringe₀ near fringe limit vs
    turn_all l limit vs c = record {
      coded = t.coded limit vs c;
      same = sym (all_passed ls w e t.m arc t.few t.at l _ _ vs k (shown vs near)) ∙ t.same limit vs c;
    }

    -- One more is.
    pub turn_more : arc < 2 * max_streams
        → Turn ls ms ps k e near₀ fringe₀
        (lessened near (get_or ls (to_cell + arc) 0) (code_of (k + reduced_cost (get_or ms arc 0) (get_or ps e 0) (get_or ps (get_or ls (to_cell + arc) 0) 0)) (arc / 2)))
        (bit_or fringe (fringe_bit far near (get_or ls (to_cell + arc) 0) (k + reduced_cost (get_or ms arc 0) (get_or ps e 0) (get_or ps (get_or ls (to_cell + arc) 0) 0)) (arc / 2)))
        (get_or ls (next_cell + arc) 0)
    turn_more l = record {
      long = less_long near v (code_of (k + g) i) ∙ t.long;
      m = i;
      few = omega (arith, low ls w e t.m arc t.few t.at l);
      at = next_is ls w e t.m arc t.few t.at l;
      coded = λ limit vs c. offered_coded limit vs near fringe v k g i (t.coded limit vs c) in_places t.long in_streams;
      same = λ limit vs c. rw (offered_along limit vs near fringe v k g i (t.coded limit vs c) in_places t.long in_streams)
          (passed ls w e t.m arc t.few t.at l ms ps vs k (shown vs near) ∙ t.same limit vs c);
    }
      where
        i : ℕ
        i = arc / 2

        v : ℕ
        v = get_or ls (to_cell + arc) 0

        g : ℕ
        g = reduced_cost (get_or ms arc 0) (get_or ps e 0) (get_or ps (get_or ls (to_cell + arc) 0) 0)

        in_places : v < places
        in_places = head_in ls w e t.m arc t.few t.at l

        in_streams : i < max_streams
        in_streams = low_all ls w e t.m arc t.few t.at l

        less_long : (near : List ℕ) (v c : ℕ) → length (lessened near v c) ≡ length near
        less_long near v c = picked (λ (r : List ℕ). length r ≡ length near) (ltb c (get_or near v 0)) (set near v c) near (λ o. length-set near v c) (λ o. refl)

-- One arc of a place's list: its stream is the last of those that are left, and what is offered over it.
use mathlib.Core.Path.{◌≡◌, refl, sym, ◌∙◌, ap, subst}
use mathlib.Core.Bool.{Bool, true, false, not}
use mathlib.Core.List.{List}
use mathlib.Core.Logic.{⊎_elim}
use Prim.Native.Nat.{ℕ, suc, ◌+◌, ◌*◌, ◌/◌, ◌%◌, ◌≤◌, ◌<◌}
use native.Mathlib.Nat.{div-add-mod', mod-lt}
use native.Mathlib.Omega.{arith}
use lib.Dec.{eqb, ltb}
use lib.ListN.{get_or}
use Rattle.num_bytes.specs.Choice.{pick}
use Rattle.num_bytes.proofs.Tests.{picked}
use Rattle.plant_def.specs.Limits.{places, max_streams}
use Rattle.solve_def.specs.Near.{code_of, lessened, last_at, arc_at, relaxed_along, relaxed_to}
use Rattle.solve_def.proofs.Listing.{touches, last_good, arc_is, arc_less, relaxed_last, relaxed_none, tail_touching, relaxed_touching}
use Rattle.solve_arcs.specs.Cells.{to_cell, next_cell, arc_of, count_of, starts_of, ends_of}
use Rattle.solve_arcs.specs.Margins.{shut, reduced_cost, reduced_costs, leaves, reaches}
use Rattle.solve_arcs.specs.ArcNeeds.{Linked}
use Rattle.solve_arcs.proofs.Along.{arc_parts, reach_is, reduced_is}

halves : (l i d : ℕ) → l ≡ 2 * i + d → d ≤ 1 → (l / 2 ≡ i) × (l % 2 ≡ d)
halves l i d h b =
    let e : l / 2 * 2 + l % 2 ≡ l = div-add-mod' l 2 in
    let m : l % 2 < 2 = mod-lt l (omega arith) in
    (omega (arith, e, m, h, b), omega (arith, e, m, h, b))

-- How many arcs are left, at most.
abbrev pub left_of : ℕ → ℕ
left_of l = pick (ltb l (2 * max_streams)) (suc l) 0

-- The arc l is the first of place e among those of the first m streams.
module _ (ls : List ℕ) (w : Linked ls) (e m l : ℕ) (few : m ≤ count_of ls) (is : l ≡ arc_at (starts_of ls) (ends_of ls) e m) where
  abbrev fs : List ℕ
  fs = starts_of ls

  abbrev ts : List ℕ
  ts = ends_of ls

  abbrev i : ℕ
  i = l / 2

  abbrev f : Bool
  f = eqb (l % 2) 1

  is_last : i ≡ last_at fs ts e m
  is_last = let q = arc_is fs ts e m in (halves l _ q.0 (is ∙ q.1) q.2).0

  -- None is left.
  pub all_passed : 2 * max_streams ≤ l → (gs bs : List ℕ) (vs : List Bool) (k : ℕ) (near : List ℕ) → relaxed_to fs ts gs bs vs k e m near ≡ near
  all_passed h gs bs vs k near = relaxed_none fs ts gs bs vs k e m near (omega (arith, is_last, h, few, w.few))

  module _ (some : l < 2 * max_streams) where
    at_place : (i < m) × (touches fs ts e i ≡ true)
    at_place =
        ⊎_elim (λ o. subst (λ (j : ℕ). (j < m) × (touches fs ts e j ≡ true)) (sym is_last) o) (λ o. absurd (omega (arith, o, is_last, some))) (last_good fs ts e m)

    -- The arc's stream is in use.
    pub low : i < count_of ls
    low = omega (arith, at_place.0, few)

    -- So its number is below the limit.
    pub low_all : i < max_streams
    low_all = omega (arith, low, w.few)

    forwards : f ≡ eqb (get_or fs i 0) e
    forwards =
        let q = arc_is fs ts e m in
        ap (λ (d : ℕ). eqb d 1) (halves l _ q.0 (is ∙ q.1) q.2).1
        ∙ q.3 (omega (arith, is_last, low_all)) ∙ ap (λ (j : ℕ). eqb (get_or fs j 0) e) (sym is_last)

    -- It leaves the place, and leads to one.
    tail : leaves ls f i ≡ e
    tail = tail_touching fs ts e i at_place.1 f forwards

    head : get_or ls (to_cell + l) 0 ≡ reaches ls f i
    head = ap (λ (c : ℕ). get_or ls (to_cell + c) 0) (arc_parts l) ∙ reach_is ls i f low

    -- The arc leads to a place.
    pub head_in : get_or ls (to_cell + l) 0 < places
    head_in = rw head (picked (λ (p : ℕ). p < places) f _ _ (λ o. w.to_in i low) (λ o. w.from_in i low))

    -- The next arc.
    pub next_is : get_or ls (next_cell + l) 0 ≡ arc_at fs ts e i
    next_is =
        ap (λ (c : ℕ). get_or ls (next_cell + c) 0) (arc_parts l) ∙ w.next i f low ∙ ap (λ (u : ℕ). arc_at fs ts u i) tail

    -- The next arc of the list is an earlier one.
    pub next_less : left_of (get_or ls (next_cell + l) 0) < left_of l
    next_less = rw next_is (arc_less fs ts e i l (2 * max_streams) some (omega (arith, div-add-mod' l 2)) (omega arith))

    module _ (ms ps : List ℕ) where
      -- The arc's margin is one.
      pub margin_small : ((k : ℕ) (f : Bool) → k < count_of ls → get_or ms (arc_of k f) 0 ≤ shut) → get_or ms l 0 ≤ shut
      margin_small h = subst (λ (c : ℕ). get_or ms c 0 ≤ shut) (sym (arc_parts l)) (h i f low)

      over_is : reduced_cost (get_or ms l 0) (get_or ps e 0) (get_or ps (get_or ls (to_cell + l) 0) 0) ≡ get_or (reduced_costs ls ms ps f) i 0
      over_is =
          ap (λ (v : ℕ). reduced_cost (get_or ms l 0) (get_or ps e 0) (get_or ps v 0)) head
          ∙ ap (λ (c : ℕ). reduced_cost (get_or ms c 0) (get_or ps e 0) (get_or ps (reaches ls f i) 0)) (arc_parts l)
          ∙ ap (λ (u : ℕ). reduced_cost (get_or ms (arc_of i f) 0) (get_or ps u 0) (get_or ps (reaches ls f i) 0)) (sym tail)
          ∙ sym (reduced_is ls ms ps f i low)

      turned : (b : Bool) (x y : ℕ) → pick b y x ≡ pick (not b) x y
      turned true x y = refl
      turned false x y = refl

      -- What is offered over it, and what the arcs after it come to.
      pub passed : (vs : List Bool) (k : ℕ) (near : List ℕ)
          → relaxed_to fs ts (reduced_costs ls ms ps true) (reduced_costs ls ms ps false) vs k e i
          (relaxed_along vs k (get_or ls (to_cell + l) 0) (reduced_cost (get_or ms l 0) (get_or ps e 0) (get_or ps (get_or ls (to_cell + l) 0) 0)) i near)
          ≡ relaxed_to fs ts (reduced_costs ls ms ps true) (reduced_costs ls ms ps false) vs k e m near
      passed vs k near =
          ap (relaxed_to fs ts (reduced_costs ls ms ps true) (reduced_costs ls ms ps false) vs k e i)
          (rw (over_is, head, turned f (get_or fs i 0) (get_or ts i 0)) (relaxed_touching fs ts e i at_place.1 (λ b. reduced_costs ls ms ps b) vs k near f forwards))
          ∙ sym (relaxed_last fs ts _ _ vs k e m i near (omega (arith, few, w.few)) is_last at_place.0)

-- A visited place is offered nothing, another one is.
pub along_visited : (vs : List Bool) (k v g i : ℕ) (near : List ℕ) → get_or vs v false ≡ true → near ≡ relaxed_along vs k v g i near
unfolding relaxed_along
along_visited vs k v g i near h = rw h

-- An offer to a place that is not visited.
pub along_unvisited : (vs : List Bool) (k v g i : ℕ) (near : List ℕ) → get_or vs v false ≡ false → lessened near v (code_of (k + g) i) ≡ relaxed_along vs k v g i near
unfolding relaxed_along
along_unvisited vs k v g i near h = rw h

-- The walk's loop over arcs, by the codes that are kept.
use mathlib.Core.Path.{◌≡◌, sym, ◌∙◌}
use mathlib.Core.Bool.{true, false}
use mathlib.Core.List.{List}
use mathlib.Core.Logic.{◌⊎◌, inl, inr, ⊎_elim}
use Prim.Native.Nat.{ℕ, ◌+◌, ◌-◌, ◌*◌, ◌/◌, ◌≤◌, ◌<◌}
use native.Mathlib.Omega.{arith}
use native.Mathlib.Decide.{ℕ_discrete}
use lib.ListN.{length, get_or, set, replicate, length-set, length-replicate, get_or-replicate}
use lib.Seq.{ext_get_or, get_or-set_same, get_or-set_other}
use Rattle.num_bytes.proofs.Tests.{clash}
use Rattle.plant_def.specs.Limits.{places}
use Rattle.num_bytes.specs.Sums.{bit}
use Rattle.num_bytes.proofs.Binary.{bit_zero}
use Rattle.solve_def.specs.declared.Spot.{Spot}
use Rattle.solve_def.specs.declared.Tree.{Tree}
use Rattle.solve_def.specs.Sizes.{net_shift, search_rounds, far, numbering}
use Rattle.solve_def.specs.Search.{root_at, added_to}
use Rattle.solve_def.specs.Near.{walked_by}
use Rattle.solve_arcs.specs.Cells.{count_of, starts_of, ends_of}
use Rattle.solve_arcs.specs.ArcNeeds.{walked_from}
use Rattle.solve_arcs.specs.Margins.{reduced_costs}
use Rattle.solve_path.specs.Codes.{shown, Coded}
use Rattle.solve_path.proofs.Coding.{shown_at, shown_long}
use Rattle.solve_path.specs.Paces.{Paced}
use Rattle.solve_path.proofs.Turns as W

-- At first the start alone is visited, and every other place has the code `top`.
module _ (top s : ℕ) (l : s < places) where
  abbrev codes : List ℕ
  codes = set (replicate places top) s 0

  -- The codes of the definition are at least that, or far.
  pub first_at : (u : ℕ) → u < places → (get_or (shown (root_at s).visited codes) u 0 ≡ far) ⊎ (get_or (shown (root_at s).visited codes) u 0 ≡ top)
  first_at u b = elim (ℕ_discrete u s) [
    | yes q ↦ inl (shown_at (root_at s).visited codes u b ∙ rw (q, get_or-set_same (replicate places false) s true false l))
    | no q ↦ inr (shown_at (root_at s).visited codes u b
        ∙ rw (get_or-set_other (replicate places false) s u true false q, get_or-replicate places u false false b) (get_or-set_other (replicate places top) s u 0 0 q ∙ get_or-replicate places u top 0 b))
  ]

  -- The fringe is empty: the limit is below `top`.
  pub first_coded : (limit : ℕ) → limit ≤ far → top ≤ (limit + 1) * numbering → (top < far → top / numbering ≤ limit → ⊥) → Coded limit (root_at s).visited codes 0
  first_coded limit low cap beyond = record {
    low = low;
    capped = λ v b. elim (ℕ_discrete v s) [
      | yes q ↦ rw (q, get_or-set_same (replicate places top) s 0 0 l) (omega arith)
      | no q ↦ rw (get_or-set_other (replicate places top) s v 0 0 q, get_or-replicate places v top 0 b) cap
    ];
    within = λ v b. clash (bit v 0) b (bit_zero v);
    zero = λ v b o. elim (ℕ_discrete v s) [
      | yes q ↦ rw q (get_or-set_same (replicate places top) s 0 0 l)
      | no q ↦ clash _ o (get_or-set_other (replicate places false) s v true false q ∙ get_or-replicate places v false false b)
    ];
    fresh = λ v b. clash (bit v 0) b (bit_zero v);
    fringe = record {
      inside = λ h b. clash (bit h 0) b (bit_zero h);
      all = λ v b c w. ⊎_elim
          (λ (e : get_or (shown (root_at s).visited codes) v 0 ≡ far). absurd (omega (arith, e, c)))
          (λ (e : get_or (shown (root_at s).visited codes) v 0 ≡ top). absurd (beyond (rw e at c) (rw e at w)))
          (first_at v b);
    };
  }

-- Before the first step no place has a code.
first_shown : (s : ℕ) → s < places → shown (root_at s).visited (set (replicate places far) s 0) ≡ replicate places far
first_shown s l =
    ext_get_or 0 (shown (root_at s).visited (codes far s l)) (replicate places far) (shown_long (root_at s).visited (codes far s l))
    (λ u b. each u (rw (shown_long (root_at s).visited (codes far s l)) at b))
  where
    each : (u : ℕ) → u < places → get_or (shown (root_at s).visited (codes far s l)) u 0 ≡ get_or (replicate places far) u 0
    each u b = ⊎_elim (λ e. e) (λ e. e) (first_at far s l u b) ∙ sym (get_or-replicate places u far 0 b)

module _ (ls ms ps es : List ℕ) (s : ℕ) where
  abbrev Walks : ℕ → Spot → Tree → List ℕ → List ℕ → Type 0
  Walks left at t ks near = W.Walking (starts_of ls) (ends_of ls) (reduced_costs ls ms ps true) (reduced_costs ls ms ps false) (count_of ls) es far s left at t ks near

  -- What holds of the walk with `left` steps to go.
  pub record Going (left : ℕ) (at : Spot) (t : Tree) (ks near : List ℕ) : Type 0 where
    pub walks : Walks left at t ks (shown t.visited near)
    pub long : length near ≡ places
    pub visits : length t.visited ≡ places
    pub coded : Coded far t.visited near at.fringe

  -- Before the first step.
  pub starts : s < places → Going search_rounds (record { place = s; distance = 0; stream = 0; fringe = 0 }) (root_at s) (replicate places 0) (set (replicate places far) s 0)
  starts l = record {
    walks = rw (first_shown s l) (W.starts _ _ _ _ _ _ _ s l);
    long = length-set (replicate places far) s 0 ∙ length-replicate places far;
    visits = length-set (replicate places false) s true ∙ length-replicate places false;
    coded = first_coded far s l far (omega arith) (omega arith) (λ a b. omega arith);
  }

  module _ (left : ℕ) (at : Spot) (t : Tree) (ks near : List ℕ) (g : Going left at t ks near) where
    -- No steps are left.
    pub ends : left ≤ 0 → walked_by false t ks at.distance
        ≡ walked_from ls ms ps es far s
    ends l = W.ends _ _ _ _ _ _ _ s left at t ks (shown t.visited near) g.walks l

    module _ (p : 0 < left) (next : List ℕ) (r : Spot) (h : Paced ls ms ps at.distance at.place near next r far t.visited) where
      -- No place is taken.
      pub stops : r.place ≡ places → walked_by false t ks r.distance
          ≡ walked_from ls ms ps es far s
      stops q = W.stops _ _ _ _ _ _ _ s left at t ks _ g.walks p _ r h.stepped q

      -- There is room in the tree.
      pub room : t.len < places
      room = W.room _ _ _ _ _ _ _ s left at t ks _ g.walks p _ r h.stepped

      module _ (q : r.place ≡ places → ⊥) where
        -- The place that is taken is a place.
        pub within : r.place < places
        within = W.within _ _ _ _ _ _ _ s left at t ks _ g.walks p _ r h.stepped q

        -- It has a negative net.
        pub hits : get_or es r.place 0 < net_shift
            → walked_by true (added_to t r.stream r.place) (set ks r.place r.distance) r.distance
            ≡ walked_from ls ms ps es far s
        hits m = W.hits _ _ _ _ _ _ _ s left at t ks _ g.walks p _ r h.stepped q m

        -- It has none, and the walk goes on.
        pub goes_on : length next ≡ places → net_shift ≤ get_or es r.place 0
            → Going (left - 1) r (added_to t r.stream r.place) (set ks r.place r.distance) next
        goes_on long m = record {
          walks = W.goes_on _ _ _ _ _ _ _ s left at t ks _ g.walks p _ r h.stepped q m;
          long = long;
          visits = length-set t.visited r.place true ∙ g.visits;
          coded = h.coded q;
        }

-- The walk over arcs without reduced cost: that of the definition within the limit 0, with codes at the distance 1 for places without an offer.
use mathlib.Core.Path.{◌≡◌, refl, ◌∙◌, ap}
use mathlib.Core.Bool.{Bool, true, false}
use mathlib.Core.List.{List}
use mathlib.Core.Logic.{inr, ⊎_elim}
use Prim.Native.Nat.{ℕ, ◌-◌, ◌≤◌, ◌<◌}
use native.Mathlib.Omega.{arith}
use lib.ListN.{length, get_or, set, replicate, length-set, length-replicate, get_or-replicate}
use Rattle.plant_def.specs.Limits.{places}
use Rattle.solve_def.specs.declared.Spot.{Spot}
use Rattle.solve_def.specs.declared.Tree.{Tree}
use Rattle.solve_def.specs.declared.Walked.{Walked}
use Rattle.solve_def.specs.Sizes.{search_rounds, far, numbering}
use Rattle.solve_def.specs.Search.{root_at, added_to}
use Rattle.solve_def.specs.Near.{goal_at, walked_by}
use Rattle.solve_def.proofs.Rounding.{goal_hit, goal_miss}
use Rattle.solve_arcs.specs.Cells.{count_of, starts_of, ends_of}
use Rattle.solve_arcs.specs.ArcNeeds.{walked_from}
use Rattle.solve_arcs.specs.Margins.{reduced_costs}
use Rattle.solve_path.specs.Codes.{shown, Coded}
use Rattle.solve_path.proofs.Coding.{shown_long}
use Rattle.solve_path.specs.Paces.{Paced, Tightly}
use Rattle.solve_path.proofs.Turns as W
use Rattle.solve_path.proofs.Going.{first_at, first_coded}
use Rattle.solve_path.proofs.Alike.{Alike, alike_walked}

module _ (ls ms ps : List ℕ) (s v : ℕ) where
  abbrev Walks : ℕ → Spot → Tree → List ℕ → List ℕ → Type 0
  Walks left at t ks near = W.Walking (starts_of ls) (ends_of ls) (reduced_costs ls ms ps true) (reduced_costs ls ms ps false) (count_of ls) (goal_at v) 0 s left at t ks near

  abbrev All : Walked
  All = walked_from ls ms ps (goal_at v) 0 s

  -- What holds of the walk without reduced cost with `left` steps to go.
  pub record Tight (left : ℕ) (at : Spot) (t : Tree) (near : List ℕ) : Type 0 where
    pub ks : List ℕ
    pub walks : Walks left at t ks (shown t.visited near)
    pub long : length near ≡ places
    pub visits : length t.visited ≡ places
    pub coded : Coded 0 t.visited near at.fringe

  -- Codes at the distance 1 are like none.
  first_alike : s < places → Alike (shown (root_at s).visited (set (replicate places numbering) s 0)) (replicate places far)
  first_alike l = record {
    long = shown_long _ _;
    long_too = length-replicate places far;
    each = λ u b. inr (
      ⊎_elim (λ (e : get_or (shown (root_at s).visited (set (replicate places numbering) s 0)) u 0 ≡ far). omega (arith, e))
          (λ (e : get_or (shown (root_at s).visited (set (replicate places numbering) s 0)) u 0 ≡ numbering). omega (arith, e)) (first_at numbering s l u b),
      omega (arith, get_or-replicate {A = ℕ} places u far 0 b),
    );
  }

  -- Before the first step.
  pub tight_starts : s < places → Tight search_rounds (record { place = s; distance = 0; stream = 0; fringe = 0 }) (root_at s) (set (replicate places numbering) s 0)
  unfolding W.whole
  tight_starts l = record {
    ks = replicate places 0;
    walks = record {
      rounds = refl;
      long = shown_long _ _;
      short = omega arith;
      place = l;
      fringe = coded₀.fringe;
      same = alike_walked _ _ _ _ _ _ search_rounds 0 s (replicate places 0) (root_at s) _ _ (first_alike l);
    };
    long = length-set (replicate places numbering) s 0 ∙ length-replicate places numbering;
    visits = length-set (replicate places false) s true ∙ length-replicate places false;
    coded = coded₀;
  }
    where
      coded₀ : Coded 0 (root_at s).visited (set (replicate places numbering) s 0) 0
      coded₀ = first_coded numbering s l 0 (omega arith) (omega arith) (λ a b. omega arith)

  told : (b : Bool) (t : Tree) (ks : List ℕ) (k : ℕ) → walked_by b t ks k ≡ All → Tightly All (record { found = b; tree = t })
  told b t ks k e = (ap (λ (w : Walked). w.found) e, ap (λ (w : Walked). w.tree) e)

  module _ (left : ℕ) (at : Spot) (t : Tree) (near : List ℕ) (g : Tight left at t near) where
    -- No steps are left.
    pub tight_ends : left ≤ 0 → Tightly All (record { found = false; tree = t })
    tight_ends l = told false t g.ks at.distance (W.ends _ _ _ _ _ _ _ s left at t g.ks (shown t.visited near) g.walks l)

    module _ (p : 0 < left) (next : List ℕ) (r : Spot) (h : Paced ls ms ps at.distance at.place near next r 0 t.visited) where
      -- No place is taken.
      pub tight_stops : r.place ≡ places → Tightly All (record { found = false; tree = t })
      tight_stops q = told false t g.ks _ (W.stops _ _ _ _ _ _ _ s left at t g.ks _ g.walks p _ r h.stepped q)

      module _ (q : r.place ≡ places → ⊥) where
        -- It is the goal.
        pub tight_hits : v < places → r.place ≡ v → Tightly All (record { found = true; tree = added_to t r.stream r.place })
        tight_hits lv e = told true (added_to t r.stream r.place) _ _ (W.hits _ _ _ _ _ _ _ s left at t g.ks _ g.walks p _ r h.stepped q (rw e (goal_hit v lv)))

        -- It is not, and the walk goes on.
        pub tight_goes_on : length next ≡ places → (r.place ≡ v → ⊥) → Tight (left - 1) r (added_to t r.stream r.place) next
        tight_goes_on long e = record {
          ks = set g.ks r.place r.distance;
          walks = W.goes_on _ _ _ _ _ _ _ s left at t g.ks _ g.walks p _ r h.stepped q
              (goal_miss v r.place (W.within _ _ _ _ _ _ _ s left at t g.ks _ g.walks p _ r h.stepped q) e);
          long = long;
          visits = length-set t.visited r.place true ∙ g.visits;
          coded = h.coded q;
        }

-- The reduced costs of arcs are the reduced costs of the streams, and a walk over arcs comes to what the search comes to.
use mathlib.Core.Path.{◌≡◌, refl, sym, ◌∙◌, ap}
use mathlib.Core.Bool.{Bool, true, false, ◌&&◌}
use mathlib.Core.List.{List}
use Prim.Native.Nat.{ℕ, ◌+◌, ◌-◌, ◌*◌, ◌≤◌, ◌<◌}
use native.Mathlib.Nat.{mul-le-mul}
use native.Mathlib.Omega.{arith}
use borrow.Author.Tests.{lt-ltb, le-ltb}
use lib.Dec.{ltb}
use lib.ListN.{get_or, take, replicate}
use lib.Seq.{get_or-take}
use Rattle.num_bytes.specs.Choice.{pick}
use Rattle.num_bytes.specs.Inner.{values}
use Rattle.num_bytes.proofs.Tests.{by_cases, picked}
use Rattle.plant_def.specs.declared.Stream.{Stream}
use Rattle.plant_def.specs.Limits.{places, max_units, max_weight}
use Rattle.plant_def.specs.Within.{WithinStream}
use Rattle.plant_def.specs.Plants.{no_stream}
use Rattle.flow_def.specs.Flows.{stream_at}
use Rattle.flow_def.specs.Certificate.{weight_of}
use Rattle.num_bytes.proofs.Lists.{values_at}
use Rattle.solve_def.specs.declared.Walked.{Walked}
use Rattle.solve_def.specs.declared.Tree.{Tree}
use Rattle.solve_def.specs.Sizes.{most_flow, most_pull, most_step, potential_shift, farthest, far, search_rounds}
use Rattle.solve_def.specs.Held.{reading_of, low_of, high_of}
use Rattle.solve_def.specs.ReducedCosts.{reduced_cost_in, room_by, reduced_cost_by, reduced_cost_at, reduced_cost_past}
use Rattle.solve_def.specs.Search.{root_at, Grown, grown_by, sought, tight_path}
use Rattle.solve_def.specs.Near.{goal_at, fallen_by, walked}
use Rattle.solve_def.specs.SearchNeeds.{Walkable}
use Rattle.solve_def.proofs.Weights.{weight_most, pull_most}
use Rattle.solve_def.proofs.Least.{Usable}
use Rattle.solve_def.proofs.Finds.{Reduced, in_use, reduced_small, usable_reduced, search_walk}
use Rattle.solve_def.proofs.Rounding.{path_walk}
use Rattle.solve_arcs.specs.Cells.{starts_of, ends_of}
use Rattle.solve_arcs.specs.Margins.{lift, shut, cost_by, margin_by, margin_at, spared, less_of, reduced_cost, reduced_costs, leaves, reaches}
use Rattle.solve_arcs.specs.ArcNeeds.{Laid, Margined, Ways, Searching, walked_from}
use Rattle.solve_arcs.proofs.Along.{reduced_is}

-- A margin and two potentials make a reduced cost.
module _ (w q low high x pu pv d : ℕ) (light : w ≤ max_weight) (pulled : q ≤ 2 * most_pull) (amount : x ≤ most_flow) where
  own : w * x ≤ most_pull
  own = pull_most w x light amount

  raw : (f : Bool) → (cost_by w q f x d + pick f pu pv) - (pick f pv pu + lift) ≡ reduced_cost_in w q f x pu pv d
  raw true = omega (arith, own)
  raw false = omega (arith, own)

  far_off : (p r : ℕ) → r ≤ potential_shift → less_of ((shut + p) - (r + lift)) farthest ≡ farthest
  far_off p r h = rw (lt-ltb farthest ((shut + p) - (r + lift)) (omega arith))

  near_by : (a b : ℕ) → a ≡ b → b ≤ farthest → less_of a farthest ≡ b
  near_by a b e h = rw (e, le-ltb farthest b h)

  over_by : (f : Bool) → pu ≤ potential_shift → pv ≤ potential_shift → pick (room_by low high f x d) (reduced_cost_in w q f x pu pv d) farthest ≤ farthest
      → reduced_cost (margin_by w q low high f x d) (pick f pu pv) (pick f pv pu) ≡ pick (room_by low high f x d) (reduced_cost_in w q f x pu pv d) farthest
  over_by f hu hv = by_cases (room_by low high f x d)
      (λ o. rw o (λ m. near_by _ _ (raw f) m))
      (λ o. rw o (λ m. far_off (pick f pu pv) (pick f pv pu) (picked (λ (r : ℕ). r ≤ potential_shift) f pv pu (λ t. hv) (λ t. hu))))

  margin_most : (f : Bool) → d ≤ most_step → margin_by w q low high f x d ≤ shut
  margin_most f h =
      let s : w * d ≤ max_weight * most_step = mul-le-mul light h in
      picked (λ (m : ℕ). m ≤ shut) (room_by low high f x d) (cost_by w q f x d) shut (λ o. cost f s) (λ o. omega arith)
    where
      cost : (f : Bool) → w * d ≤ max_weight * most_step → cost_by w q f x d ≤ shut
      cost true s = omega (arith, own)
      cost false s = omega (arith, own)

module _ (streams : List Stream) (n : ℕ) (xs ps : List ℕ) (d skip : ℕ) (ls rs ms : List ℕ) (laid : Laid streams n ls rs) (mg : Margined n rs xs d skip ms) (w : Walkable streams n xs ps d) where
  abbrev ss : List Stream
  ss = take n streams

  -- By the reduced costs as they are defined.
  defined : (gs bs : List ℕ) → ((k : ℕ) → k < n → get_or gs k 0 ≡ reduced_cost_past ss xs ps d skip true k) → ((k : ℕ) → k < n → get_or bs k 0 ≡ reduced_cost_past ss xs ps d skip false k)
      → Reduced streams n xs ps d skip (starts_of ls) (ends_of ls) gs bs
  defined gs bs ga ba = record {
    network = w.searchable.network;
    met = w.met;
    step = w.searchable.step;
    potentials = w.searchable.potentials;
    moderate = w.moderate;
    floor = w.floored;
    starts = λ k l. laid.along.starts k l ∙ sym (rw (get_or-take n streams k no_stream l));
    ends = λ k l. laid.along.ends k l ∙ sym (rw (get_or-take n streams k no_stream l));
    ahead = ga;
    back = ba;
  }

  by_definition : Reduced streams n xs ps d skip (starts_of ls) (ends_of ls) (values n (λ k. reduced_cost_past ss xs ps d skip true k)) (values n (λ k. reduced_cost_past ss xs ps d skip false k))
  by_definition = defined _ _ (λ k l. values_at (λ k. reduced_cost_past ss xs ps d skip true k) 0 n k l) (λ k l. values_at (λ k. reduced_cost_past ss xs ps d skip false k) 0 n k l)

  small : (k : ℕ) (f : Bool) → k < n → Usable ss skip k → reduced_cost_at ss xs ps d k f ≤ farthest
  small k f l u =
      rw (← usable_reduced streams n xs ps d skip _ _ _ _ by_definition k f l u) (reduced_small streams n xs ps d skip _ _ _ _ by_definition k f l)

  margin_reduced : (f : Bool) (k : ℕ) → k < n → get_or (reduced_costs ls ms ps f) k 0 ≡ reduced_cost_past ss xs ps d skip f k
  margin_reduced f k l =
      reduced_is ls ms ps f k (rw laid.along.counted l) ∙ by_cases (spared rs skip k)
      (λ o. ap (λ (m : ℕ). reduced_cost m (get_or ps (leaves ls f k) 0) (get_or ps (reaches ls f k) 0)) (mg.alone k f l o)
      ∙ far_off 0 0 0 0 0 0 0 0 (omega arith) (omega arith) (omega arith) (get_or ps (leaves ls f k) 0) (get_or ps (reaches ls f k) 0) (potential_in f) ∙ sym (rw (sym metered ∙ o)))
      (λ o. ap (λ (m : ℕ). reduced_cost m (get_or ps (leaves ls f k) 0) (get_or ps (reaches ls f k) 0)) (mg.are k f l o) ∙ over (sym metered ∙ o) ∙ sym (past (sym metered ∙ o)))
    where
      s : Stream
      s = get_or streams k no_stream

      each : WithinStream max_units s
      each = w.searchable.network.within.each k l

      turned : (f : Bool) (a b : ℕ) → get_or ps (pick f a b) 0 ≡ pick f (get_or ps a 0) (get_or ps b 0)
      turned true a b = refl
      turned false a b = refl

      -- A metered stream is one that weighs something.
      metered : spared rs skip k ≡ ((stream_at ss k).metered && ltb k skip)
      metered = rw (laid.rowed.weights k l, get_or-take n streams k no_stream l) (ap (λ (b : Bool). b && ltb k skip) (go s.metered each.weighed))
        where
          go : (b : Bool) → (b ≡ true → 1 ≤ s.weight) → ltb 0 (pick b s.weight 0) ≡ b
          go true h = lt-ltb 0 s.weight (omega (arith, h refl))
          go false h = le-ltb 0 0 (omega arith)

      potential_in : (f : Bool) → get_or ps (reaches ls f k) 0 ≤ potential_shift
      potential_in true = w.searchable.potentials _ (laid.along.linked.to_in k (rw laid.along.counted l))
      potential_in false = w.searchable.potentials _ (laid.along.linked.from_in k (rw laid.along.counted l))

      past : Usable ss skip k → reduced_cost_past ss xs ps d skip f k ≡ reduced_cost_by s f (get_or xs k 0) (get_or ps s.from 0) (get_or ps s.to 0) d
      past u = rw (u, get_or-take n streams k no_stream l)

      over : Usable ss skip k → reduced_cost (margin_at rs f k (get_or xs k 0) d) (get_or ps (leaves ls f k) 0) (get_or ps (reaches ls f k) 0)
          ≡ reduced_cost_by s f (get_or xs k 0) (get_or ps s.from 0) (get_or ps s.to 0) d
      over u =
          let row = laid.rowed in
          let along = laid.along in
          rw (row.weights k l, row.pulls k l, row.lows k l, row.highs k l, along.starts k l, along.ends k l, turned f s.from s.to, turned f s.to s.from)
          (over_by (weight_of s) (2 * (weight_of s * reading_of s)) (low_of s) (high_of s) (get_or xs k 0) (get_or ps s.from 0) (get_or ps s.to 0) d
          (weight_most s each) (rw (laid.rowed.pulls k l) at (laid.rowed.pulled k l)) (w.searchable.amounts k l) f
          (w.searchable.potentials s.from (omega (arith, each.from_in))) (w.searchable.potentials s.to (omega (arith, each.to_in)))
          (rw (get_or-take n streams k no_stream l) at (small k f l u)))

  -- The reduced costs of the arcs are reduced costs as a walk needs them.
  pub reduced : Reduced streams n xs ps d skip (starts_of ls) (ends_of ls) (reduced_costs ls ms ps true) (reduced_costs ls ms ps false)
  reduced = defined _ _ (margin_reduced true) (margin_reduced false)

  -- And the arcs can be gone along.
  pub ways_of : Ways ls ms ps
  ways_of = record {
    linked = laid.along.linked;
    potentials = w.searchable.potentials;
    small = λ k f b.
        let l : k < n = rw laid.along.counted at b in
        let s = get_or streams k no_stream in
        by_cases (spared rs skip k)
        (λ o. rw (mg.alone k f l o) (omega arith))
        (λ o. rw (mg.are k f l o, laid.rowed.weights k l, laid.rowed.pulls k l)
        (margin_most (weight_of s) (2 * (weight_of s * reading_of s)) _ _ (get_or xs k 0) 0 0 d (weight_most s (w.searchable.network.within.each k l))
        (rw (laid.rowed.pulls k l) at (laid.rowed.pulled k l)) (w.searchable.amounts k l) f w.searchable.step));
  }

-- A walk over the first m streams of the arcs.
abbrev walk_over : List ℕ → List ℕ → List ℕ → List ℕ → ℕ → ℕ → ℕ → Walked
walk_over ls ms ps es limit s m =
    walked (starts_of ls) (ends_of ls) (reduced_costs ls ms ps true) (reduced_costs ls ms ps false) m es limit search_rounds 0 s
    (replicate places 0) (replicate places far) (root_at s)

-- A walk over arcs comes to what the search over their streams comes to.
pub search_linked : (ls ms ps es : List ℕ) (d s : ℕ) → s < places → (w : Searching ls ms ps d 0) (r : Walked)
    → r ≡ walked_from ls ms ps es far s
    → grown_by r.found r.tree (pick r.found (fallen_by r.tree.visited r.dist r.reach ps) ps) ≡ sought (take w.n w.streams) w.amounts es ps d s
unfolding sought
search_linked ls ms ps es d s l w r e =
    rw (in_use w.streams w.n w.amounts ps d 0 (starts_of ls) (ends_of ls) _ _ all)
    (ap (λ (g : Grown). grown_by g.found g.tree (pick g.found g.potentials ps))
    (ap (λ (v : Walked). grown_by v.found v.tree (fallen_by v.tree.visited v.dist v.reach ps))
    (e ∙ ap (λ (m : ℕ). walk_over ls ms ps es far s m) w.laid.along.counted)
    ∙ sym (search_walk w.streams w.n w.amounts ps d (starts_of ls) (ends_of ls) _ _ all es s l)))
  where
    all : Reduced w.streams w.n w.amounts ps d 0 (starts_of ls) (ends_of ls) (reduced_costs ls ms ps true) (reduced_costs ls ms ps false)
    all = reduced w.streams w.n w.amounts ps d 0 ls w.rows ms w.laid w.margined w.walkable

-- And a walk over arcs without reduced cost to what the search over streams without reduced cost comes to.
pub path_linked : (ls ms ps : List ℕ) (v skip s : ℕ) → v < places → s < places → (w : Searching ls ms ps 1 skip) (b : Bool) (t : Tree)
    → (b ≡ (walked_from ls ms ps (goal_at v) 0 s).found) × (t ≡ (walked_from ls ms ps (goal_at v) 0 s).tree)
    → grown_by b t ps ≡ tight_path (take w.n w.streams) w.n w.amounts ps v skip search_rounds (root_at s)
path_linked ls ms ps v skip s lv l w b t e =
    rw (e.0, e.1)
    (ap (λ (m : ℕ). grown_of (walk_over ls ms ps (goal_at v) 0 s m)) w.laid.along.counted
    ∙ sym (path_walk w.streams w.n w.amounts ps skip (starts_of ls) (ends_of ls) _ _ all v lv s l))
  where
    grown_of : Walked → Grown
    grown_of x = grown_by x.found x.tree ps

    all : Reduced w.streams w.n w.amounts ps 1 skip (starts_of ls) (ends_of ls) (reduced_costs ls ms ps true) (reduced_costs ls ms ps false)
    all = reduced w.streams w.n w.amounts ps 1 skip ls w.rows ms w.laid w.margined w.walkable

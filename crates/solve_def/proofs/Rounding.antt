-- The search over streams without reduced cost by a walk of distance 0: it comes to what that search comes to.
use mathlib.Core.Path.{◌≡◌, refl, sym, ◌∙◌, ap}
use mathlib.Core.Bool.{Bool, true, false, not}
use mathlib.Core.List.{List}
use Prim.Native.Nat.{ℕ, zero, suc, ◌-◌, ◌/◌, ◌%◌, ◌≤◌, ◌<◌}
use native.Mathlib.Omega.{arith}
use native.Mathlib.Decide.{dec_le, ℕ_discrete}
use lib.ListN.{length, get_or, set, take, replicate, length-set, get_or-replicate}
use lib.Seq.{get_or-take, get_or-set_same, get_or-set_other}
use Rattle.num_bytes.proofs.Filled.{blank_at}
use Rattle.plant_def.specs.declared.Stream.{Stream}
use Rattle.plant_def.specs.Limits.{places}
use Rattle.plant_def.specs.Plants.{no_stream}
use Rattle.flow_def.specs.Flows.{stream_at}
use Rattle.solve_def.specs.declared.Tree.{Tree}
use Rattle.solve_def.specs.declared.Walked.{Walked}
use Rattle.solve_def.specs.Sizes.{net_shift, search_rounds, numbering, farthest, far}
use Rattle.solve_def.specs.ReducedCosts.{Crossing, At, Nothing, least_to, reduced_cost_at}
use Rattle.solve_def.specs.Search.{far_end, root_at, added_to, Grown, grown_by, tight_path}
use Rattle.solve_def.specs.Near.{relaxed_to, nearest_to, goal_at, walked}
use Rattle.solve_def.proofs.Least.{Usable, start_in, end_in, Answers, least_good, answers_same}
use Rattle.solve_def.proofs.Rounds.{path_none, path_stop, path_hit, path_more, path_end}
use Rattle.solve_def.proofs.Steps.{walk_none, walk_far, walk_hit, walk_more, walk_end}
use Rattle.solve_def.proofs.Nearing.{tail_of, head_of, reduced_cost_of, over_of, Nears, relaxed_good, next_good}
use Rattle.solve_def.proofs.Walks.{leaving, leads_on, Told, told, none_leads}
use Rattle.solve_def.proofs.Finds.{Reduced, heads, tails, usable_reduced, left_alone, root_nears}

-- Only place v has a negative net.
pub goal_hit : (v : ℕ) → v < places → get_or (goal_at v) v 0 < net_shift
goal_hit v l = rw (get_or-set_same (replicate places net_shift) v 0 0 l) (omega arith)

-- Another place than the goal has no negative net.
pub goal_miss : (v u : ℕ) → u < places → (u ≡ v → ⊥) → net_shift ≤ get_or (goal_at v) u 0
goal_miss v u l q = rw (get_or-set_other (replicate places net_shift) v u 0 0 q, get_or-replicate places u net_shift 0 l) (omega arith)

module _ (streams : List Stream) (n : ℕ) (xs ps : List ℕ) (skip : ℕ) (fs ts gs bs : List ℕ) (laid : Reduced streams n xs ps 1 skip fs ts gs bs) (v : ℕ) (vl : v < places) where
  abbrev ss : List Stream
  ss = take n streams

  abbrev starts : (k : ℕ) → k < n → get_or fs k 0 ≡ (stream_at ss k).from
  starts = laid.starts

  abbrev ends : (k : ℕ) → k < n → get_or ts k 0 ≡ (stream_at ss k).to
  ends = laid.ends

  -- From place e, all distances 0.
  pub record Tight (e : ℕ) (ks near : List ℕ) (t : Tree) : Type 0 where
    pub nears : Nears n fs ts gs bs t.visited ks 0 e n near
    pub marked : get_or t.visited e false ≡ true
    pub visits : length t.visited ≡ places
    pub dists : length ks ≡ places
    pub none : (u : ℕ) → get_or ks u 0 ≡ 0

  -- One round.
  module _ (l e : ℕ) (ks near : List ℕ) (t : Tree) (g : Tight e ks near t) where
    abbrev codes : List ℕ
    codes = relaxed_to fs ts gs bs t.visited 0 e n near

    abbrev r : ℕ
    r = nearest_to codes places

    abbrev j : ℕ
    j = get_or codes r 0 / numbering

    full : Nears n fs ts gs bs t.visited ks 0 e 0 codes
    full =
        relaxed_good n fs ts gs bs t.visited ks 0 e (heads streams n xs ps 1 skip fs ts gs bs laid) g.marked 0 (g.none e) (omega arith) n near (omega arith)
        g.nears

    over : (i : ℕ) (f : Bool) → over_of n fs ts gs bs ks i f ≡ reduced_cost_of n fs ts gs bs i f
    over i f = rw (g.none (tail_of n fs ts gs bs i f)) (omega arith)

    -- No usable stream without reduced cost leaves the visited places.
    shut : ((i : ℕ) → i < n → Usable ss skip i → start_in ss t.visited i ≡ not (end_in ss t.visited i) → 0 < reduced_cost_at ss xs ps 1 i (start_in ss t.visited i))
        → tight_path ss n xs ps v skip (suc l) t ≡ grown_by false t ps
    shut lack = go _ refl (least_good ss xs ps t.visited 1 skip n)
      where
        go : (f : Crossing) → least_to ss xs ps t.visited 1 skip n ≡ f → Answers ss xs ps t.visited 1 skip n f → tight_path ss n xs ps v skip (suc l) t ≡ grown_by false t ps
        go Nothing e m = path_none streams n xs ps v skip t (suc l) (omega arith) e
        go (At i g) e m = path_stop streams n xs ps v skip t (suc l) i g (omega arith) e (omega (arith, m.is, lack i m.below m.usable m.leaves))

    none : r ≡ places → tight_path ss n xs ps v skip (suc l) t ≡ grown_by false t ps
    none q = shut (λ i b u c.
        let o = leaving ss n fs ts gs bs starts ends laid.network.within.few_streams t.visited i b c in
        elim (dec_le farthest (reduced_cost_of n fs ts gs bs i (start_in ss t.visited i))) [
          | yes z ↦ omega (arith, z, usable_reduced streams n xs ps 1 skip fs ts gs bs laid i (start_in ss t.visited i) b u)
          | no z ↦ absurd
              (none_leads ss n fs ts gs bs starts ends laid.network.within.few_streams (heads streams n xs ps 1 skip fs ts gs bs laid) t.visited ks codes 0 e r full refl q i
              (start_in ss t.visited i) b o.0 o.1 (rw (over i (start_in ss t.visited i)) (omega arith)))
        ])

    module _ (q : r ≡ places → ⊥) where
      tells : Told ss n fs ts gs bs starts ends laid.network.within.few_streams t.visited ks codes r
      tells = told ss n fs ts gs bs starts ends laid.network.within.few_streams (heads streams n xs ps 1 skip fs ts gs bs laid) t.visited ks codes 0 e r full refl q

      least : (i : ℕ) → i < n → Usable ss skip i → start_in ss t.visited i ≡ not (end_in ss t.visited i)
          → (j ≤ reduced_cost_at ss xs ps 1 i (start_in ss t.visited i)) × (reduced_cost_at ss xs ps 1 i (start_in ss t.visited i) ≤ j → tells.lead.stream ≤ i)
      least i b u c =
          let o = leaving ss n fs ts gs bs starts ends laid.network.within.few_streams t.visited i b c in
          rw (sym (usable_reduced streams n xs ps 1 skip fs ts gs bs laid i (start_in ss t.visited i) b u), sym (over i (start_in ss t.visited i)))
          (tells.nearer i (start_in ss t.visited i) b o.0 o.1)

      above : 0 < j → tight_path ss n xs ps v skip (suc l) t ≡ grown_by false t ps
      above h = shut (λ i b u c. omega (arith, (least i b u c).0))

      -- At distance 0 the stream that leads there is one without reduced cost.
      module _ (z : j ≤ 0) where
        abbrev i : ℕ
        i = tells.lead.stream

        abbrev f : Bool
        f = tells.lead.forwards

        off : get_or t.visited (head_of n fs ts gs bs i f) false ≡ false
        off = rw tells.lead.head tells.lead.off

        on : (start_in ss t.visited i ≡ not (end_in ss t.visited i)) × (start_in ss t.visited i ≡ f) × (far_end t.visited (stream_at ss i) ≡ head_of n fs ts gs bs i f)
        on = leads_on ss n fs ts gs bs starts ends laid.network.within.few_streams t.visited i f tells.lead.below tells.lead.tail off

        tight : reduced_cost_of n fs ts gs bs i f ≡ 0
        tight = omega (arith, over i f, tells.distance)

        usable : Usable ss skip i
        usable = left_alone streams n xs ps 1 skip fs ts gs bs laid i f tells.lead.below tight

        some : least_to ss xs ps t.visited 1 skip n ≡ At i 0
        some = answers_same ss xs ps t.visited 1 skip n (At i 0) (record {
          below = tells.lead.below;
          usable = usable;
          leaves = on.0;
          is = rw on.1 (sym (sym (usable_reduced streams n xs ps 1 skip fs ts gs bs laid i f tells.lead.below usable) ∙ tight));
          least = λ m b u c. omega arith;
          first = λ m b u c h. (least m b u c).1 (omega arith);
        })

        far_end_lem : far_end t.visited (get_or streams i no_stream) ≡ r
        far_end_lem = ap (far_end t.visited) (sym (get_or-take n streams i no_stream tells.lead.below)) ∙ on.2 ∙ tells.lead.head

        abbrev next : Tree
        next = added_to t (get_or codes r 0 % numbering) r

        going : Tight r (set ks r j) (set codes r far) next
        going = record {
          nears = next_good n fs ts gs bs t.visited ks (set ks r j) 0 e codes r 0 full tells.within g.visits tells.lead.off
              (λ u o. get_or-set_other ks r u j 0 o) (omega arith) (λ u b. omega arith);
          marked = get_or-set_same t.visited r true false (rw g.visits tells.within);
          visits = length-set t.visited r true ∙ g.visits;
          dists = length-set ks r j ∙ g.dists;
          none = λ u. elim (ℕ_discrete u r) [
            | yes o ↦ rw (o, get_or-set_same ks r j 0 (rw g.dists tells.within)) (omega arith)
            | no o ↦ get_or-set_other ks r u j 0 o ∙ g.none u
          ];
        }

  -- What a walk comes to, as a search.
  abbrev grown_of : Walked → Grown
  grown_of w = grown_by w.found w.tree ps

  walk_tight : (l e : ℕ) (ks near : List ℕ) (t : Tree) → Tight e ks near t
      → tight_path ss n xs ps v skip l t ≡ grown_of (walked fs ts gs bs n (goal_at v) 0 l 0 e ks near t)
  walk_tight zero e ks near t g = path_end streams n xs ps v skip t ∙ ap grown_of (sym (walk_end fs ts gs bs n (goal_at v) 0 0 e ks near t))
  walk_tight (suc l) e ks near t g = elim (ℕ_discrete (r l e ks near t g) places) [
    | yes q ↦ none l e ks near t g q ∙ ap grown_of (sym (walk_none fs ts gs bs n (goal_at v) 0 0 e ks near t _ refl _ refl (suc l) (omega arith) q))
    | no q ↦ elim (ℕ_discrete (j l e ks near t g) 0) [
      | no z ↦ above l e ks near t g q (omega arith)
          ∙ ap grown_of (sym (walk_far fs ts gs bs n (goal_at v) 0 0 e ks near t _ refl _ refl (suc l) (omega arith) q (omega arith)))
      | yes z ↦ elim (ℕ_discrete (r l e ks near t g) v) [
        | yes y ↦ hit q (omega arith) y
        | no y ↦ more q (omega arith) z y (walk_tight l _ _ _ _ (going l e ks near t g q (omega arith)))
      ]
    ]
  ]
    where
      place : ℕ
      place = r l e ks near t g

      gap : ℕ
      gap = j l e ks near t g

      after : Tree
      after = added_to t (get_or (codes l e ks near t g) place 0 % numbering) place

      numbered : (q : place ≡ places → ⊥) (z : gap ≤ 0) → i l e ks near t g q z ≡ get_or (codes l e ks near t g) place 0 % numbering
      numbered q z = sym (tells l e ks near t g q).number

      hit : (q : place ≡ places → ⊥) → gap ≤ 0 → place ≡ v
          → tight_path ss n xs ps v skip (suc l) t ≡ grown_of (walked fs ts gs bs n (goal_at v) 0 (suc l) 0 e ks near t)
      hit q z y =
          path_hit streams n xs ps v skip t (suc l) _ 0 (omega arith) (tells l e ks near t g q).lead.below (some l e ks near t g q z) (omega arith) (far_end_lem l e ks near t g q z ∙ y)
          ∙ rw (far_end_lem l e ks near t g q z, numbered q z)
          (ap grown_of (sym (walk_hit fs ts gs bs n (goal_at v) 0 0 e ks near t _ refl _ refl (suc l) (omega arith) q z (rw y (goal_hit v vl)))))

      more : (q : place ≡ places → ⊥) → gap ≤ 0 → gap ≡ 0 → (place ≡ v → ⊥)
          → tight_path ss n xs ps v skip l after ≡ grown_of (walked fs ts gs bs n (goal_at v) 0 l 0 place (set ks place gap) (set (codes l e ks near t g) place far) after)
          → tight_path ss n xs ps v skip (suc l) t ≡ grown_of (walked fs ts gs bs n (goal_at v) 0 (suc l) 0 e ks near t)
      more q z nil y rest =
          let o : suc l - 1 ≡ l = omega arith in
          let m : walked fs ts gs bs n (goal_at v) 0 (suc l) 0 e ks near t ≡ walked fs ts gs bs n (goal_at v) 0 l 0 place (set ks place gap) (set (codes l e ks near t g) place far) after =
          walk_more fs ts gs bs n (goal_at v) 0 0 e ks near t _ refl _ refl (suc l) (omega arith) q z (goal_miss v place (tells l e ks near t g q).within y) ∙ rw (o, nil) in
          path_more streams n xs ps v skip t (suc l) _ 0 (omega arith) (tells l e ks near t g q).lead.below (some l e ks near t g q z) (omega arith)
          (λ w. y (sym (far_end_lem l e ks near t g q z) ∙ w))
          ∙ rw (o, far_end_lem l e ks near t g q z, numbered q z) (rest ∙ ap grown_of (sym m))

  -- From the first place.
  pub path_walk : (s : ℕ) → s < places
      → tight_path ss n xs ps v skip search_rounds (root_at s) ≡ grown_of (walked fs ts gs bs n (goal_at v) 0 search_rounds 0 s (replicate places 0) (replicate places far) (root_at s))
  path_walk s l = walk_tight search_rounds s (replicate places 0) (replicate places far) (root_at s) (record {
    nears = root_nears n fs ts gs bs s l (tails streams n xs ps 1 skip fs ts gs bs laid);
    marked = get_or-set_same (replicate places false) s true false l;
    visits = length-set (replicate places false) s true;
    dists = refl;
    none = blank_at {A = ℕ} 0 places;
  })

-- The search by a walk: it comes to what the search comes to.
use mathlib.Core.Path.{◌≡◌, refl, sym, ◌∙◌, ap}
use mathlib.Core.Bool.{Bool, true, false, not, ◌&&◌}
use mathlib.Core.List.{List}
use Prim.Native.Nat.{ℕ, zero, suc, ◌+◌, ◌-◌, ◌*◌, ◌/◌, ◌%◌, ◌≤◌, ◌<◌}
use native.Mathlib.Nat.{div-add-mod}
use native.Mathlib.Omega.{arith}
use native.Mathlib.Decide.{ℕ_discrete}
use borrow.Author.Tests.{ltb-true, ltb-false}
use lib.Dec.{ltb}
use lib.ListN.{length, get_or, set, take, replicate, length-set, get_or-replicate}
use lib.Seq.{get_or-take, length-take-le, get_or-set_same, get_or-set_other}
use Rattle.num_bytes.specs.Choice.{pick}
use Rattle.num_bytes.proofs.Tests.{by_cases, clash}
use Rattle.num_bytes.proofs.Filled.{blank_at, get_d_any}
use Rattle.plant_def.specs.declared.Stream.{Stream}
use Rattle.plant_def.specs.Limits.{max_units, places}
use Rattle.plant_def.specs.Within.{WithinStream}
use Rattle.plant_def.specs.Plants.{no_stream}
use Rattle.flow_def.specs.Flows.{stream_at}
use Rattle.solve_def.specs.declared.Tree.{Tree}
use Rattle.solve_def.specs.declared.Walked.{Walked}
use Rattle.solve_def.specs.Sizes.{net_shift, most_step, search_rounds, most_marginal, potential_floor, numbering, farthest, far}
use Rattle.solve_def.specs.Held.{AllStepsMet}
use Rattle.solve_def.specs.ReducedCosts.{Crossing, At, Nothing, least_to, reduced_cost_by, reduced_cost_at, reduced_cost_past}
use Rattle.solve_def.specs.Search.{fallen, lowered_by, far_end, root_at, added_to, Grown, grown_by, grow}
use Rattle.solve_def.specs.Near.{relaxed_to, nearest_to, fallen_by, walked}
use Rattle.solve_def.specs.SearchNeeds.{Network, Potentials, Moderate, Floored}
use Rattle.solve_def.proofs.Bounds.{HasRoom, reduced_with_room, reduced_shut, room_of, room_or, reduced_most, reading_within}
use Rattle.solve_def.proofs.Growing.{reduced_rise}
use Rattle.solve_def.proofs.Weights.{weight_most}
use Rattle.solve_def.proofs.Filling.{fallen_at, fallen_none}
use Rattle.solve_def.proofs.Least.{Usable, all_usable, start_in, end_in, Answers, least_good, answers_same}
use Rattle.solve_def.proofs.Rounds.{grow_none, grow_stop, grow_hit, grow_more, grow_end}
use Rattle.solve_def.proofs.Steps.{walk_none, walk_hit, walk_more, walk_end}
use Rattle.solve_def.proofs.Nearing.{nearest_is, nearest_least, tail_of, head_of, reduced_cost_of, over_of, Nears, relaxed_good, next_good}
use Rattle.solve_def.proofs.Walks.{fallen_next, leaving, leads_on, Told, told, none_leads}

-- Starts, ends and reduced costs of the streams in use.
pub record Reduced (streams : List Stream) (n : ℕ) (xs ps : List ℕ) (d skip : ℕ) (fs ts gs bs : List ℕ) : Type 0 where
  pub network : Network streams n
  pub met : AllStepsMet (take n streams) xs ps d
  pub step : d ≤ most_step
  pub potentials : Potentials ps
  pub moderate : Moderate (take n streams) xs
  pub floor : Floored ps
  pub starts : (k : ℕ) → k < n → get_or fs k 0 ≡ (stream_at (take n streams) k).from
  pub ends : (k : ℕ) → k < n → get_or ts k 0 ≡ (stream_at (take n streams) k).to
  pub ahead : (k : ℕ) → k < n → get_or gs k 0 ≡ reduced_cost_past (take n streams) xs ps d skip true k
  pub back : (k : ℕ) → k < n → get_or bs k 0 ≡ reduced_cost_past (take n streams) xs ps d skip false k

module _ (streams : List Stream) (n : ℕ) (xs ps : List ℕ) (d skip : ℕ) (fs ts gs bs : List ℕ) (laid : Reduced streams n xs ps d skip fs ts gs bs) where
  -- The streams in use are n.
  pub in_use : length (take n streams) ≡ n
  in_use = length-take-le n streams (omega (arith, laid.network.within.few_streams, laid.network.long))

  placed : (k : ℕ) → k < n → WithinStream max_units (stream_at (take n streams) k)
  placed k l = rw (get_or-take n streams k no_stream l) (laid.network.within.each k l)

  -- A stream's head is a place.
  pub heads : (k : ℕ) (f : Bool) → k < n → head_of n fs ts gs bs k f < places
  heads k true l = rw (laid.ends k l) (omega (arith, (placed k l).to_in))
  heads k false l = rw (laid.starts k l) (omega (arith, (placed k l).from_in))

  -- So is its tail.
  pub tails : (k : ℕ) (f : Bool) → k < n → tail_of n fs ts gs bs k f < places
  tails k true l = heads k false l
  tails k false l = heads k true l

  -- The reduced cost of a stream with room, by the potentials of the ends.
  rises : (k : ℕ) (f : Bool) → k < n → HasRoom (stream_at (take n streams) k) f (get_or xs k 0) d
      → reduced_cost_at (take n streams) xs ps d k f + get_or ps (head_of n fs ts gs bs k f) 0 ≤ get_or ps (tail_of n fs ts gs bs k f) 0 + most_marginal
  rises k f l o = go f (reduced_rise f s (get_or xs k 0) _ _ d (laid.met k (rw in_use l)) (weight_most s (placed k l)) laid.step
      (λ m. (laid.moderate k (rw in_use l) m, reading_within s.reading (omega (arith, (placed k l).within_range m)))) o)
    where
      s : Stream
      s = stream_at (take n streams) k

      go : (f : Bool)
          → reduced_cost_at (take n streams) xs ps d k f + pick f (get_or ps (stream_at (take n streams) k).to 0) (get_or ps (stream_at (take n streams) k).from 0)
          ≤ pick f (get_or ps (stream_at (take n streams) k).from 0) (get_or ps (stream_at (take n streams) k).to 0) + most_marginal
          → reduced_cost_at (take n streams) xs ps d k f + get_or ps (head_of n fs ts gs bs k f) 0 ≤ get_or ps (tail_of n fs ts gs bs k f) 0 + most_marginal
      go true h = rw (laid.starts k l, laid.ends k l) h
      go false h = rw (laid.starts k l, laid.ends k l) h

  past : (k : ℕ) (f : Bool) → k < n → reduced_cost_of n fs ts gs bs k f ≡ reduced_cost_past (take n streams) xs ps d skip f k
  past k true l = laid.ahead k l
  past k false l = laid.back k l

  -- That of a stream with room is below farthest.
  room_small : (k : ℕ) (f : Bool) → k < n → HasRoom (stream_at (take n streams) k) f (get_or xs k 0) d → reduced_cost_at (take n streams) xs ps d k f < farthest
  room_small k f l o = omega (arith, rises k f l o, laid.floor (head_of n fs ts gs bs k f) (heads k f l), laid.potentials (tail_of n fs ts gs bs k f) (tails k f l))

  -- It is farthest where the stream is left alone, and at most that in any case.
  pub reduced_small : (k : ℕ) (f : Bool) → k < n → reduced_cost_of n fs ts gs bs k f ≤ farthest
  reduced_small k f l = rw (past k f l) (go ((stream_at (take n streams) k).metered && ltb k skip))
    where
      go : (b : Bool) → pick b farthest (reduced_cost_at (take n streams) xs ps d k f) ≤ farthest
      go true = omega arith
      go false = reduced_most f (stream_at (take n streams) k) (get_or xs k 0) _ _ d (λ o. omega (arith, room_small k f l o))

  -- A stream that is not left alone has its reduced cost.
  pub usable_reduced : (k : ℕ) (f : Bool) → k < n → Usable (take n streams) skip k → reduced_cost_of n fs ts gs bs k f ≡ reduced_cost_at (take n streams) xs ps d k f
  usable_reduced k f l u = past k f l ∙ rw u

  -- One without reduced cost is not left alone.
  pub left_alone : (k : ℕ) (f : Bool) → k < n → reduced_cost_of n fs ts gs bs k f ≡ 0 → Usable (take n streams) skip k
  left_alone k f l z = go ((stream_at (take n streams) k).metered && ltb k skip) (sym (past k f l) ∙ z)
    where
      go : (b : Bool) → pick b farthest (reduced_cost_at (take n streams) xs ps d k f) ≡ 0 → b ≡ false
      go true h = absurd (omega arith)
      go false h = refl

-- The first place is the only one visited.
only_root : (s v : ℕ) → s < places → v < places → get_or (set (replicate places false) s true) v false ≡ true → v ≡ s
only_root s v l b t = elim (ℕ_discrete v s) [ yes q ↦ q | no q ↦ clash _ t (get_or-set_other (replicate places false) s v true false q ∙ get_or-replicate places v false false b) ]

-- Nothing was looked at yet.
pub root_nears : (n : ℕ) (fs ts gs bs : List ℕ) (s : ℕ) → s < places → ((k : ℕ) (f : Bool) → k < n → tail_of n fs ts gs bs k f < places)
    → Nears n fs ts gs bs (root_at s).visited (replicate places 0) 0 s n (replicate places far)
root_nears n fs ts gs bs s l tails = record {
  long = refl;
  least = λ k f b t o q. absurd (omega (arith, o (only_root s (tail_of n fs ts gs bs k f) l (tails k f b) t)));
  real = λ v b o. absurd (omega (arith, o, get_or-replicate places v far 0 b));
  above = λ v b. omega arith;
}

-- The search from the place root; now from a visited place e at distance k.
module _ (streams : List Stream) (n : ℕ) (xs ps : List ℕ) (d : ℕ) (fs ts gs bs : List ℕ) (laid : Reduced streams n xs ps d 0 fs ts gs bs) (es : List ℕ) (root : ℕ) (within : root < places) where
  abbrev ss : List Stream
  ss = take n streams

  abbrev starts : (k : ℕ) → k < n → get_or fs k 0 ≡ (stream_at ss k).from
  starts = laid.starts

  abbrev ends : (k : ℕ) → k < n → get_or ts k 0 ≡ (stream_at ss k).to
  ends = laid.ends

  -- What holds of a walk underway, at place e and distance k, with l rounds to go.
  pub record Going (l k e : ℕ) (ks near : List ℕ) (t : Tree) : Type 0 where
    pub nears : Nears n fs ts gs bs t.visited ks (k * numbering) e n near
    pub marked : get_or t.visited e false ≡ true
    pub at : get_or ks e 0 ≡ k
    pub visits : length t.visited ≡ places
    pub dists : length ks ≡ places
    pub sized : (u : ℕ) → get_or ks u 0 ≤ k
    pub place : e < places
    pub short : t.len + l ≤ search_rounds
    -- A potential and a distance together are above the root's potential by at most a marginal for each place visited since.
    pub tall : (u : ℕ) → u < places → get_or t.visited u false ≡ true → get_or ps u 0 + get_or ks u 0 ≤ get_or ps root 0 + most_marginal * t.len

  -- So no potential falls below 0.
  reach_small : (l k e : ℕ) (ks near : List ℕ) (t : Tree) → Going l k e ks near t → k ≤ potential_floor
  reach_small l k e ks near t g =
      omega (arith, g.tall e g.place g.marked, g.at, g.short, laid.floor e g.place, laid.potentials root within)

  -- The reduced cost at the present potentials is what the distance over a stream exceeds the present one.
  now_reduced : (ls : List Bool) (ks : List ℕ) (k i : ℕ) (f : Bool) → i < n → HasRoom (stream_at ss i) f (get_or xs i 0) d → k ≤ potential_floor → ((u : ℕ) → get_or ks u 0 ≤ k)
      → get_or ls (tail_of n fs ts gs bs i f) false ≡ true → get_or ls (head_of n fs ts gs bs i f) false ≡ false → k ≤ over_of n fs ts gs bs ks i f
      → reduced_cost_at ss xs (fallen_by ls ks k ps) d i f + k ≡ over_of n fs ts gs bs ks i f
  now_reduced ls ks k i f l o small close t h m =
      rw (fallen_at ls ks k ps (stream_at ss i).from, fallen_at ls ks k ps (stream_at ss i).to)
      (go f o (usable_reduced streams n xs ps d 0 fs ts gs bs laid i f l (all_usable ss i)) t h m)
    where
      fu : (stream_at ss i).from < places
      fu = rw (sym (starts i l)) (heads streams n xs ps d 0 fs ts gs bs laid i false l)

      tu : (stream_at ss i).to < places
      tu = rw (sym (ends i l)) (heads streams n xs ps d 0 fs ts gs bs laid i true l)

      go : (f : Bool) → HasRoom (stream_at ss i) f (get_or xs i 0) d → reduced_cost_of n fs ts gs bs i f ≡ reduced_cost_at ss xs ps d i f → get_or ls (tail_of n fs ts gs bs i f) false ≡ true
          → get_or ls (head_of n fs ts gs bs i f) false ≡ false → k ≤ over_of n fs ts gs bs ks i f
          → reduced_cost_by (stream_at ss i) f (get_or xs i 0) (fallen (get_or ls (stream_at ss i).from false) (k - get_or ks (stream_at ss i).from 0) (get_or ps (stream_at ss i).from 0))
          (fallen (get_or ls (stream_at ss i).to false) (k - get_or ks (stream_at ss i).to 0) (get_or ps (stream_at ss i).to 0)) d + k ≡ over_of n fs ts gs bs ks i f
      go true o e t h m =
          let a : get_or ls (stream_at ss i).from false ≡ true = rw (starts i l) at t in
          let b : get_or ls (stream_at ss i).to false ≡ false = rw (ends i l) at h in
          let u = (stream_at ss i).from in
          let q = get_or ps (stream_at ss i).to 0 in
          let was = reduced_with_room true (stream_at ss i) (get_or xs i 0) (get_or ps u 0) q d o in
          let is = reduced_with_room true (stream_at ss i) (get_or xs i 0) (get_or ps u 0 - (k - get_or ks u 0)) q d o in
          rw (a, b, starts i l) (omega (arith, was, is, laid.floor u fu, close u, rw (starts i l) at m))
      go false o e t h m =
          let a : get_or ls (stream_at ss i).to false ≡ true = rw (ends i l) at t in
          let b : get_or ls (stream_at ss i).from false ≡ false = rw (starts i l) at h in
          let v = (stream_at ss i).to in
          let q = get_or ps (stream_at ss i).from 0 in
          let was = reduced_with_room false (stream_at ss i) (get_or xs i 0) q (get_or ps v 0) d o in
          let is = reduced_with_room false (stream_at ss i) (get_or xs i 0) q (get_or ps v 0 - (k - get_or ks v 0)) d o in
          rw (a, b, ends i l) (omega (arith, was, is, laid.floor v tu, close v, rw (ends i l) at m))

  -- One round.
  module _ (l k e : ℕ) (ks near : List ℕ) (t : Tree) (g : Going (suc l) k e ks near t) where
    abbrev codes : List ℕ
    codes = relaxed_to fs ts gs bs t.visited k e n near

    abbrev r : ℕ
    r = nearest_to codes places

    abbrev qs : List ℕ
    qs = fallen_by t.visited ks k ps

    abbrev j : ℕ
    j = get_or codes r 0 / numbering

    full : Nears n fs ts gs bs t.visited ks (k * numbering) e 0 codes
    full =
        relaxed_good n fs ts gs bs t.visited ks (k * numbering) e (heads streams n xs ps d 0 fs ts gs bs laid) g.marked k g.at (omega arith) n near
        (omega arith) g.nears

    over_tall : (i : ℕ) (f : Bool) → i < n → HasRoom (stream_at ss i) f (get_or xs i 0) d → get_or t.visited (tail_of n fs ts gs bs i f) false ≡ true
        → get_or ps (head_of n fs ts gs bs i f) 0 + over_of n fs ts gs bs ks i f ≤ get_or ps root 0 + most_marginal * (t.len + 1)
    over_tall i f b o y = omega (
      arith,
      usable_reduced streams n xs ps d 0 fs ts gs bs laid i f b (all_usable ss i),
      rises streams n xs ps d 0 fs ts gs bs laid i f b o,
      g.tall (tail_of n fs ts gs bs i f) (tails streams n xs ps d 0 fs ts gs bs laid i f b) y,
    )

    over_small : (i : ℕ) (f : Bool) → i < n → HasRoom (stream_at ss i) f (get_or xs i 0) d → get_or t.visited (tail_of n fs ts gs bs i f) false ≡ true → over_of n fs ts gs bs ks i f < farthest
    over_small i f b o y =
        omega (arith, over_tall i f b o y, g.short, laid.floor (head_of n fs ts gs bs i f) (heads streams n xs ps d 0 fs ts gs bs laid i f b), laid.potentials root within)

    over_least : (i : ℕ) (f : Bool) → i < n → get_or t.visited (tail_of n fs ts gs bs i f) false ≡ true
        → get_or t.visited (head_of n fs ts gs bs i f) false ≡ false → k ≤ over_of n fs ts gs bs ks i f
    over_least i f b y z =
        omega (arith, full.least i f b y (λ o. omega arith) z, full.above (head_of n fs ts gs bs i f) (heads streams n xs ps d 0 fs ts gs bs laid i f b), laid.network.within.few_streams)

    reduced_is : (i : ℕ) (f : Bool) → i < n → HasRoom (stream_at ss i) f (get_or xs i 0) d → get_or t.visited (tail_of n fs ts gs bs i f) false ≡ true
        → get_or t.visited (head_of n fs ts gs bs i f) false ≡ false → reduced_cost_at ss xs qs d i f + k ≡ over_of n fs ts gs bs ks i f
    reduced_is i f b o y z = now_reduced t.visited ks k i f b o (reach_small (suc l) k e ks near t g) g.sized y z (over_least i f b y z)

    -- A stream that leads nowhere has the greatest reduced cost.
    shut_far : (i : ℕ) → (HasRoom (stream_at ss i) (start_in ss t.visited i) (get_or xs i 0) d → ⊥) → reduced_cost_at ss xs qs d i (start_in ss t.visited i) ≡ farthest
    shut_far i o = reduced_shut (start_in ss t.visited i) (stream_at ss i) (get_or xs i 0) _ _ d o

    -- No stream with room leaves the visited places.
    none : r ≡ places → grow ss n xs es d (suc l) qs t ≡ grown_by false t qs
    none q = go _ refl (least_good ss xs qs t.visited d 0 n)
      where
        shut : (i : ℕ) → i < n → start_in ss t.visited i ≡ not (end_in ss t.visited i) → HasRoom (stream_at ss i) (start_in ss t.visited i) (get_or xs i 0) d → ⊥
        shut i b c free =
            let o = leaving ss n fs ts gs bs starts ends laid.network.within.few_streams t.visited i b c in
            none_leads ss n fs ts gs bs starts ends laid.network.within.few_streams (heads streams n xs ps d 0 fs ts gs bs laid) t.visited ks codes (k * numbering) e r full refl q i
            (start_in ss t.visited i) b o.0 o.1
            (over_small i (start_in ss t.visited i) b free o.0)

        go : (f : Crossing) → least_to ss xs qs t.visited d 0 n ≡ f → Answers ss xs qs t.visited d 0 n f → grow ss n xs es d (suc l) qs t ≡ grown_by false t qs
        go Nothing e m = grow_none streams n xs es d qs t (suc l) (omega arith) e
        go (At i g) e m = grow_stop streams n xs es d qs t (suc l) i g (omega arith) e
            (omega (arith, m.is, shut_far i (shut i m.below m.leaves)))

    -- The nearest place is at the end of the stream of least reduced cost.
    module _ (q : r ≡ places → ⊥) where
      tells : Told ss n fs ts gs bs starts ends laid.network.within.few_streams t.visited ks codes r
      tells = told ss n fs ts gs bs starts ends laid.network.within.few_streams (heads streams n xs ps d 0 fs ts gs bs laid) t.visited ks codes (k * numbering) e r full refl q

      abbrev i : ℕ
      i = tells.lead.stream

      abbrev f : Bool
      f = tells.lead.forwards

      off : get_or t.visited (head_of n fs ts gs bs i f) false ≡ false
      off = rw tells.lead.head tells.lead.off

      on : (start_in ss t.visited i ≡ not (end_in ss t.visited i)) × (start_in ss t.visited i ≡ f) × (far_end t.visited (stream_at ss i) ≡ head_of n fs ts gs bs i f)
      on = leads_on ss n fs ts gs bs starts ends laid.network.within.few_streams t.visited i f tells.lead.below tells.lead.tail off

      small : j < farthest
      small = omega (arith, (nearest_is codes r full.long refl q).1, div-add-mod (get_or codes r 0) 128)

      -- It has room.
      free : HasRoom (stream_at ss i) f (get_or xs i 0) d
      free = room_of f (stream_at ss i) (get_or xs i 0) (get_or ps (stream_at ss i).from 0) (get_or ps (stream_at ss i).to 0) d
          (omega (arith, usable_reduced streams n xs ps d 0 fs ts gs bs laid i f tells.lead.below (all_usable ss i), tells.distance, small))

      further : k ≤ j
      further = omega (arith, over_least i f tells.lead.below tells.lead.tail off, tells.distance)

      some : least_to ss xs qs t.visited d 0 n ≡ At i (j - k)
      some = answers_same ss xs qs t.visited d 0 n (At i (j - k)) (record {
        below = tells.lead.below;
        usable = all_usable ss i;
        leaves = on.0;
        is = rw on.1 (omega (arith, reduced_is i f tells.lead.below free tells.lead.tail off, tells.distance));
        least = λ m b u c.
            let o = leaving ss n fs ts gs bs starts ends laid.network.within.few_streams t.visited m b c in
            room_or (start_in ss t.visited m) (stream_at ss m) (get_or xs m 0) d
            (λ y. omega (arith, reduced_is m (start_in ss t.visited m) b y o.0 o.1, (tells.nearer m (start_in ss t.visited m) b o.0 o.1).0))
            (λ y. omega (arith, small, reduced_shut (start_in ss t.visited m) (stream_at ss m) (get_or xs m 0) (get_or qs (stream_at ss m).from 0) (get_or qs (stream_at ss m).to 0) d y));
        first = λ m b u c h.
            let o = leaving ss n fs ts gs bs starts ends laid.network.within.few_streams t.visited m b c in
            room_or (start_in ss t.visited m) (stream_at ss m) (get_or xs m 0) d
            (λ y. (tells.nearer m (start_in ss t.visited m) b o.0 o.1).1 (omega (arith, reduced_is m (start_in ss t.visited m) b y o.0 o.1, h, further)))
            (λ y. absurd (omega (arith, small, h, shut_far m y)));
      })

      far_end_lem : far_end t.visited (get_or streams i no_stream) ≡ r
      far_end_lem = ap (far_end t.visited) (sym (get_or-take n streams i no_stream tells.lead.below)) ∙ on.2 ∙ tells.lead.head

      lowered : lowered_by t.visited (j - k) qs ≡ fallen_by (set t.visited r true) (set ks r j) j ps
      lowered = fallen_next t.visited ks ps k j r further g.sized (rw g.visits tells.within) (rw g.dists tells.within) tells.lead.off

      abbrev next : Tree
      next = added_to t (get_or codes r 0 % numbering) r

      going : Going l j r (set ks r j) (set codes r far) next
      going = record {
        nears = next_good n fs ts gs bs t.visited ks (set ks r j) (k * numbering) e codes r (j * numbering) full tells.within g.visits tells.lead.off
            (λ u o. get_or-set_other ks r u j 0 o) (omega (arith, small)) (λ v b. omega (arith, least v b, div-add-mod (get_or codes r 0) 128));
        marked = get_or-set_same t.visited r true false (rw g.visits tells.within);
        at = get_or-set_same ks r j 0 (rw g.dists tells.within);
        visits = length-set t.visited r true ∙ g.visits;
        dists = length-set ks r j ∙ g.dists;
        sized = λ u. elim (ℕ_discrete u r) [
          | yes o ↦ rw (o, get_or-set_same ks r j 0 (rw g.dists tells.within)) (omega arith)
          | no o ↦ rw (get_or-set_other ks r u j 0 o) (omega (arith, g.sized u, further))
        ];
        place = tells.within;
        short = omega (arith, g.short);
        tall = λ u b y. elim (ℕ_discrete u r) [
          | yes o ↦ rw (o, get_or-set_same ks r j 0 (rw g.dists tells.within))
              (omega (arith, tells.distance, ap (λ (v : ℕ). get_or ps v 0) tells.lead.head, over_tall i f tells.lead.below free tells.lead.tail))
          | no o ↦ rw (get_or-set_other ks r u j 0 o) (omega (arith, g.tall u b (sym (get_or-set_other t.visited r u true false o) ∙ y)))
        ];
      }
        where
          least : (v : ℕ) → v < places → get_or codes r 0 ≤ get_or codes v 0
          least v b = rw (get_d_any codes r 0 far (rw full.long tells.within)) (nearest_least codes r v full.long refl b)

  -- What a walk comes to, as a search.
  abbrev grown_of : Walked → Grown
  grown_of w = grown_by w.found w.tree (fallen_by w.tree.visited w.dist w.reach ps)

  walk_grow : (l k e : ℕ) (ks near : List ℕ) (t : Tree) → Going l k e ks near t
      → grow ss n xs es d l (fallen_by t.visited ks k ps) t ≡ grown_of (walked fs ts gs bs n es far l k e ks near t)
  walk_grow zero k e ks near t g = grow_end streams n xs es d _ t ∙ ap grown_of (sym (walk_end fs ts gs bs n es far k e ks near t))
  walk_grow (suc l) k e ks near t g = elim (ℕ_discrete (r l k e ks near t g) places) [
    | yes q ↦ none l k e ks near t g q
        ∙ ap grown_of (sym (walk_none fs ts gs bs n es far k e ks near t _ refl _ refl (suc l) (omega arith) q))
    | no q ↦ by_cases (ltb (get_or es (r l k e ks near t g) 0) net_shift)
        (λ h. hit q (ltb-true _ _ h))
        (λ h. more q (ltb-false _ _ h) (walk_grow l _ _ _ _ _ (going l k e ks near t g q)))
  ]
    where
      place : ℕ
      place = r l k e ks near t g

      limited : (q : place ≡ places → ⊥) → j l k e ks near t g ≤ far
      limited q = omega (arith, small l k e ks near t g q)

      numbered : (q : place ≡ places → ⊥) → i l k e ks near t g q ≡ get_or (codes l k e ks near t g) place 0 % numbering
      numbered q = sym (tells l k e ks near t g q).number

      hit : (q : place ≡ places → ⊥) → get_or es place 0 < net_shift
          → grow ss n xs es d (suc l) (fallen_by t.visited ks k ps) t ≡ grown_of (walked fs ts gs bs n es far (suc l) k e ks near t)
      hit q h =
          grow_hit streams n xs es d _ t (suc l) _ _ (omega arith) (tells l k e ks near t g q).lead.below (some l k e ks near t g q)
          (omega (arith, small l k e ks near t g q)) (rw (far_end_lem l k e ks near t g q) h)
          ∙ rw (far_end_lem l k e ks near t g q, lowered l k e ks near t g q, numbered q)
          (ap grown_of (sym (walk_hit fs ts gs bs n es far k e ks near t _ refl _ refl (suc l) (omega arith) q (limited q) h)))

      more : (q : place ≡ places → ⊥) → net_shift ≤ get_or es place 0
          → (grow ss n xs es d l (fallen_by (next l k e ks near t g q).visited (set ks place (j l k e ks near t g)) (j l k e ks near t g) ps) (next l k e ks near t g q)
          ≡ grown_of (walked fs ts gs bs n es far l (j l k e ks near t g) place (set ks place (j l k e ks near t g)) (set (codes l k e ks near t g) place far) (next l k e ks near t g q)))
          → grow ss n xs es d (suc l) (fallen_by t.visited ks k ps) t ≡ grown_of (walked fs ts gs bs n es far (suc l) k e ks near t)
      more q h rest =
          let z : suc l - 1 ≡ l = omega arith in
          grow_more streams n xs es d _ t (suc l) _ _ (omega arith) (tells l k e ks near t g q).lead.below (some l k e ks near t g q)
          (omega (arith, small l k e ks near t g q)) (rw (far_end_lem l k e ks near t g q) h)
          ∙ rw (z, far_end_lem l k e ks near t g q, lowered l k e ks near t g q, numbered q)
          (rest
          ∙ ap grown_of (sym (walk_more fs ts gs bs n es far k e ks near t _ refl _ refl (suc l) (omega arith) q (limited q) h ∙ rw z)))

  -- From the first place.
  pub search_walk : grow ss n xs es d search_rounds ps (root_at root) ≡ grown_of (walked fs ts gs bs n es far search_rounds 0 root (replicate places 0) (replicate places far) (root_at root))
  search_walk =
      ap (λ (qs : List ℕ). grow ss n xs es d search_rounds qs (root_at root)) (sym (fallen_none (root_at root).visited (replicate places 0) ps))
      ∙ walk_grow search_rounds 0 root (replicate places 0) (replicate places far) (root_at root) (record {
        nears = root_nears n fs ts gs bs root within (tails streams n xs ps d 0 fs ts gs bs laid);
        marked = get_or-set_same (replicate places false) root true false within;
        at = blank_at {A = ℕ} 0 places root;
        visits = length-set (replicate places false) root true;
        dists = refl;
        sized = λ u. omega (arith, blank_at {A = ℕ} 0 places u);
        place = within;
        short = omega arith;
        tall = λ u b y. omega (arith, blank_at {A = ℕ} 0 places u, ap (λ (v : ℕ). get_or ps v 0) (only_root root u within b y));
      })

-- The search finds a place with a negative net, or is stuck with the places that it visited: no stream with room leaves them.
use mathlib.Core.Path.{◌≡◌, refl, sym, ◌∙◌, ap}
use mathlib.Core.Bool.{Bool, true, false, not}
use mathlib.Core.List.{List}
use Prim.Native.Nat.{ℕ, zero, suc, ◌+◌, ◌-◌, ◌≤◌, ◌<◌}
use native.Mathlib.Omega.{arith}
use native.Mathlib.Decide.{dec_le}
use borrow.Author.Tests.{ltb-true, ltb-false, leb-true, leb-false, eqb-true, eqb-false, eq-eqb, not-false}
use lib.Dec.{eqb, ltb, leb}
use lib.ListN.{length, get_or}
use lib.Seq.{get_or-set_same, get_or-set_other}
use Rattle.num_bytes.specs.Choice.{pick}
use Rattle.num_bytes.proofs.Tests.{by_cases, clash}
use Rattle.plant_def.specs.declared.Stream.{Stream}
use Rattle.plant_def.specs.Limits.{places}
use Rattle.flow_def.specs.Flows.{stream_at}
use Rattle.solve_def.specs.declared.Tree.{Tree}
use Rattle.solve_def.specs.Sizes.{net_shift, search_rounds, most_step, most_marginal, potential_floor, farthest}
use Rattle.solve_def.specs.Held.{low_of, high_of, AllStepsMet}
use Rattle.solve_def.specs.ReducedCosts.{Crossing, At, Nothing, least_to, reduced_cost_at}
use Rattle.solve_def.specs.Search.{lowered_by, far_end, on_crossing, root_at, added_to, target, Grown, grown_by, grow, sought}
use Rattle.solve_def.specs.SearchNeeds.{Potentials, Moderate, Floored}
use Rattle.solve_def.proofs.Elements.{lowered_at, lowered_long, fallen_least}
use Rattle.solve_def.proofs.Least.{opposed, all_usable, start_in, end_in, Answers, least_good}
use Rattle.solve_def.proofs.Counting.{count_full}
use Rattle.solve_def.proofs.Bounds.{HasRoom, room_of}
use Rattle.solve_def.proofs.Augmenting.{reached_more}
use Rattle.solve_def.proofs.Growing.{Plain, Growing, Level, root_growing, from_small, to_small, lower_growing, lower_level, some_left}
use Rattle.solve_def.proofs.Growing.{far_off, far_near, add_level, add_growing, reduced_gone, reduced_rise, modest}

-- What a search that found a place comes to, from the potentials ps: the place visited last has a negative net, and no potential rose.
pub record Found (n : ℕ) (ss : List Stream) (xs es : List ℕ) (d root : ℕ) (ps : List ℕ) (g : Grown) : Type 0 where
  pub grown : Growing n ss xs d root g.potentials g.tree
  pub some : 1 ≤ g.tree.len
  pub near : target g.tree ≤ n
  pub negative : get_or es (target g.tree) 0 < net_shift
  pub rise : (u : ℕ) → get_or g.potentials u 0 ≤ get_or ps u 0
  pub long : length g.potentials ≡ length ps

-- What a search that is stuck comes to: the visited places, none with a negative net, and no stream with room leaves them.
pub record Stuck (n : ℕ) (ss : List Stream) (xs es : List ℕ) (d root : ℕ) (ls : List Bool) : Type 0 where
  pub rooted : get_or ls root false ≡ true
  pub none_less : (v : ℕ) → v ≤ n → get_or ls v false ≡ true → net_shift ≤ get_or es v 0
  pub shut : (k : ℕ) → k < length ss → start_in ss ls k ≡ not (end_in ss ls k) → HasRoom (stream_at ss k) (start_in ss ls k) (get_or xs k 0) d → ⊥

-- A search hits, or is stuck.
pub data Hunt (n : ℕ) (ss : List Stream) (xs es : List ℕ) (d root : ℕ) (ps : List ℕ) (g : Grown) : Type 0 where
  hit : g.found ≡ true → Found n ss xs es d root ps g → Hunt n ss xs es d root ps g
  stuck : g.found ≡ false → Stuck n ss xs es d root g.tree.visited → Hunt n ss xs es d root ps g

-- The place visited last is the target.
pub new_target : (t : Tree) (i e : ℕ) → t.len < length t.ends → target (added_to t i e) ≡ e
new_target t i e l = let q : t.len + 1 - 1 ≡ t.len = omega arith in rw q (get_or-set_same t.ends t.len e 0 l)

-- During a search from the potentials ps₀: what is known of the visited places and the potentials, beside Growing.
pub record Since (n : ℕ) (es ps₀ ps : List ℕ) (t : Tree) : Type 0 where
  pub level : Level ps t
  pub none : (v : ℕ) → v ≤ n → get_or t.visited v false ≡ true → net_shift ≤ get_or es v 0
  pub same : (u : ℕ) → get_or t.visited u false ≡ false → get_or ps u 0 ≡ get_or ps₀ u 0
  pub rise : (u : ℕ) → get_or ps u 0 ≤ get_or ps₀ u 0
  pub long : length ps ≡ length ps₀

module _ (n : ℕ) (ss : List Stream) (plain : Plain n ss) (xs es : List ℕ) (d : ℕ) (step : d ≤ most_step) (root : ℕ) (near : root ≤ n)
    (room : (k : ℕ) → k < length ss → d ≤ get_or xs k 0) (moderate : Moderate ss xs) (ps₀ : List ℕ) (capped : Potentials ps₀) (floor : Floored ps₀) where
  root_marked : (ps : List ℕ) (t : Tree) → Growing n ss xs d root ps t → get_or t.visited root false ≡ true
  root_marked ps t h = h.reaches_all root (omega (arith, plain.small)) ∙ reached_more root t.ends 0 t.len root (omega arith) (eq-eqb root root refl)

  -- A stream that leaves the visited places: its reduced cost by the potentials of the two ends, the end that is visited, and how large the reduced cost is.
  module _ (ps : List ℕ) (t : Tree) (h : Growing n ss xs d root ps t) (since : Since n es ps₀ ps t) (k : ℕ) (l : k < length ss) (c : start_in ss t.visited k ≡ not (end_in ss t.visited k)) where
    abbrev head : ℕ
    head = far_end t.visited (stream_at ss k)

    abbrev tail : ℕ
    tail = pick (start_in ss t.visited k) (stream_at ss k).from (stream_at ss k).to

    across : HasRoom (stream_at ss k) (start_in ss t.visited k) (get_or xs k 0) d → reduced_cost_at ss xs ps d k (start_in ss t.visited k) + get_or ps head 0 ≤ get_or ps tail 0 + most_marginal
    across = by_cases (start_in ss t.visited k)
        (λ q. rw q (reduced_rise true (stream_at ss k) (get_or xs k 0) _ _ d (h.met k l) (plain.light k l) step (modest n ss plain xs d root moderate k l)))
        (λ q. rw q (reduced_rise false (stream_at ss k) (get_or xs k 0) _ _ d (h.met k l) (plain.light k l) step (modest n ss plain xs d root moderate k l)))

    tail_on : get_or t.visited tail false ≡ true
    tail_on = by_cases (start_in ss t.visited k) (λ q. rw q q) (λ q. rw q (not-false (end_in ss t.visited k) (sym c ∙ q)))

    tail_small : tail < places
    tail_small = by_cases (start_in ss t.visited k) (λ q. rw q (from_small n ss plain xs d root k l)) (λ q. rw q (to_small n ss plain xs d root k l))

    head_near : head ≤ n
    head_near = far_near n ss plain xs d root t.visited k l

    head_off : get_or t.visited head false ≡ false
    head_off = far_off n ss plain xs d root t.visited (stream_at ss k) c

    head_floor : potential_floor ≤ get_or ps head 0
    head_floor = rw (since.same head head_off) (floor head (omega (arith, head_near, plain.small)))

    reduced_low : HasRoom (stream_at ss k) (start_in ss t.visited k) (get_or xs k 0) d → reduced_cost_at ss xs ps d k (start_in ss t.visited k) < farthest
    reduced_low o = omega (arith, across o, head_floor, since.rise tail, capped tail tail_small)

    -- No visited potential falls below 0.
    reduced_room : reduced_cost_at ss xs ps d k (start_in ss t.visited k) < farthest → (u : ℕ) → u < places → get_or t.visited u false ≡ true
        → reduced_cost_at ss xs ps d k (start_in ss t.visited k) ≤ get_or ps u 0
    reduced_room f u lu a =
        let rise = across (room_of (start_in ss t.visited k) (stream_at ss k) (get_or xs k 0) _ _ d f) in
        let few = some_left n ss plain xs d root ps t head h head_near head_off in
        omega (arith, rise, head_floor, since.level tail u tail_small lu tail_on a, few, plain.small)

  grow_good : (l : ℕ) (ps : List ℕ) (t : Tree) → Growing n ss xs d root ps t → n ≤ l + t.len → Since n es ps₀ ps t
      → Hunt n ss xs es d root ps₀ (grow ss (length ss) xs es d l ps t)
  unfolding grow
  grow_good zero ps t h fuel since = stuck refl (record {
    rooted = root_marked ps t h;
    none_less = since.none;
    shut = λ k l c o. opposed (start_in ss t.visited k) (end_in ss t.visited k)
        (all (stream_at ss k).from (plain.inside k l).0 ∙ sym (all (stream_at ss k).to (plain.inside k l).1)) c;
  })
    where
      all : (v : ℕ) → v ≤ n → get_or t.visited v false ≡ true
      all = count_full n (λ v. get_or t.visited v false) (omega (arith, h.counted))
  grow_good (suc l) ps t h fuel since = go (least_to ss xs ps t.visited d 0 (length ss)) (least_good ss xs ps t.visited d 0 (length ss)) (grow_good l)
    where
      go : (f : Crossing) → Answers ss xs ps t.visited d 0 (length ss) f
          → ((qs : List ℕ) (r : Tree) → Growing n ss xs d root qs r → n ≤ l + r.len → Since n es ps₀ qs r → Hunt n ss xs es d root ps₀ (grow ss (length ss) xs es d l qs r))
          → Hunt n ss xs es d root ps₀ (on_crossing f (grown_by false t ps) (λ i g. pick (leb farthest g) (grown_by false t ps)
          (pick (ltb (get_or es (far_end t.visited (stream_at ss i)) 0) net_shift)
          (grown_by true (added_to t i (far_end t.visited (stream_at ss i))) (lowered_by t.visited g ps))
          (grow ss (length ss) xs es d l (lowered_by t.visited g ps) (added_to t i (far_end t.visited (stream_at ss i)))))))
      go Nothing m rec = stuck refl (record {
        rooted = root_marked ps t h;
        none_less = since.none;
        shut = λ k l c o. opposed (start_in ss t.visited k) (end_in ss t.visited k) (m k l (all_usable ss k)) c;
      })
      go (At i g) m rec = by_cases (leb farthest g)
          (λ q. rw q (stuck refl (record {
            rooted = root_marked ps t h;
            none_less = since.none;
            shut = λ k l c o. omega (arith, reduced_low ps t h since k l c o, m.least k l (all_usable ss k) c, leb-true farthest g q);
          })))
          (λ o. rw o (onward (leb-false farthest g o)))
        where
          onward : g < farthest
              → Hunt n ss xs es d root ps₀ (pick (ltb (get_or es (far_end t.visited (stream_at ss i)) 0) net_shift)
              (grown_by true (added_to t i (far_end t.visited (stream_at ss i))) (lowered_by t.visited g ps))
              (grow ss (length ss) xs es d l (lowered_by t.visited g ps) (added_to t i (far_end t.visited (stream_at ss i)))))
          onward below = by_cases (ltb (get_or es (far_end t.visited (stream_at ss i)) 0) net_shift) (λ q. rw q (hit refl (reach q))) (λ q. rw q (on q))
            where
              e : ℕ
              e = far_end t.visited (stream_at ss i)

              qs : List ℕ
              qs = lowered_by t.visited g ps

              r : Tree
              r = added_to t i (far_end t.visited (stream_at ss i))

              enough : (u : ℕ) → u < places → get_or t.visited u false ≡ true → g ≤ get_or ps u 0
              enough u k a = rw m.is (reduced_room ps t h since i m.below m.leaves (rw (← m.is) below) u k a)

              low : Growing n ss xs d root qs t
              low = lower_growing n ss plain xs d root ps t g h enough (λ k o c. m.least k o (all_usable ss k) c)

              gone : reduced_cost_at ss xs qs d i (start_in ss t.visited i) ≡ 0
              gone = rw (lowered_at t.visited g ps (stream_at ss i).from, lowered_at t.visited g ps (stream_at ss i).to)
                  (reduced_gone (start_in ss t.visited i) (end_in ss t.visited i) (stream_at ss i) (get_or xs i 0) (get_or ps (stream_at ss i).from 0)
                  (get_or ps (stream_at ss i).to 0) d g m.leaves (enough (stream_at ss i).from (from_small n ss plain xs d root i m.below))
                  (enough (stream_at ss i).to (to_small n ss plain xs d root i m.below)) m.is below)

              more : Growing n ss xs d root qs r
              more = add_growing n ss plain xs d root qs t i low m.below m.leaves gone (room i m.below)

              level : Level qs r
              level =
                  add_level n ss plain xs d root qs t i low (lower_level n ss plain xs d root ps t g since.level enough) step moderate m.below m.leaves gone

              left : t.len < n
              left = some_left n ss plain xs d root ps t e h (head_near ps t h since i m.below m.leaves) (head_off ps t h since i m.below m.leaves)

              few : t.len < length t.ends
              few = rw h.endings (omega (arith, left, plain.small))

              last : target r ≡ e
              last = new_target t i e few

              -- A place that is not visited now was not before, and kept its potential.
              off : (u : ℕ) → get_or r.visited u false ≡ false → get_or t.visited u false ≡ false
              off u q = by_cases (eqb e u)
                  (λ z. let o : e ≡ u = eqb-true e u z in
                  clash _ (get_or-set_same t.visited e true false (rw h.visits (omega (arith, head_near ps t h since i m.below m.leaves, plain.small)))) (rw (← o) at q))
                  (λ z. sym (get_or-set_other t.visited e u true false (λ o. eqb-false e u z (sym o))) ∙ q)

              unmoved : (u : ℕ) → get_or t.visited u false ≡ false → get_or qs u 0 ≡ get_or ps₀ u 0
              unmoved u q = rw (lowered_at t.visited g ps u, q) (since.same u q)

              rise : (u : ℕ) → get_or qs u 0 ≤ get_or ps₀ u 0
              rise u = rw (lowered_at t.visited g ps u) (omega (arith, (fallen_least (get_or t.visited u false) g (get_or ps u 0)).0, since.rise u))

              long : length qs ≡ length ps₀
              long = lowered_long t.visited g ps ∙ since.long

              reach : ltb (get_or es (far_end t.visited (stream_at ss i)) 0) net_shift ≡ true → Found n ss xs es d root ps₀ (grown_by true r qs)
              reach q = record {
                grown = more;
                some = omega arith;
                near = rw last (head_near ps t h since i m.below m.leaves);
                negative = rw last (ltb-true _ _ q);
                rise = rise;
                long = long;
              }

              on : ltb (get_or es (far_end t.visited (stream_at ss i)) 0) net_shift ≡ false → Hunt n ss xs es d root ps₀ (grow ss (length ss) xs es d l qs r)
              on q = rec qs r more (omega arith) (record { level = level; none = still; same = λ u o. unmoved u (off u o); rise = rise; long = long })
                where
                  still : (v : ℕ) → v ≤ n → get_or r.visited v false ≡ true → net_shift ≤ get_or es v 0
                  still v k c = by_cases (eqb e v)
                      (λ z. let o : e ≡ v = eqb-true e v z in rw (← o) (ltb-false (get_or es e 0) net_shift q))
                      (λ z. since.none v k (sym (get_or-set_other t.visited e v true false (λ o. eqb-false e v z (sym o))) ∙ c))

  -- From the first place, in as many rounds as there are other places.
  pub hunt : AllStepsMet ss xs ps₀ d → net_shift ≤ get_or es root 0 → Hunt n ss xs es d root ps₀ (sought ss xs es ps₀ d root)
  unfolding sought
  hunt h e = back _ (grow_good search_rounds ps₀ (root_at root) start (omega (arith, plain.small)) (record {
    level = λ u v lu lv a b. rw (← only u lu a, ← only v lv b) (omega arith);
    none = λ v k c. rw (← only v (omega (arith, plain.small)) c) e;
    same = λ u q. refl;
    rise = λ u. omega arith;
    long = refl;
  }))
    where
      start : Growing n ss xs d root ps₀ (root_at root)
      start = root_growing n ss xs ps₀ d root plain.small near h

      only : (v : ℕ) → v < places → get_or (root_at root).visited v false ≡ true → root ≡ v
      only v k c = eqb-true root v (sym (start.reaches_all v k) ∙ c)

      -- The potentials are the search's where it found a place, and as they were where it did not.
      back : (g : Grown) → Hunt n ss xs es d root ps₀ g → Hunt n ss xs es d root ps₀ (grown_by g.found g.tree (pick g.found g.potentials ps₀))
      back g (hit q f) = hit q (rw q (record { grown = f.grown; some = f.some; near = f.near; negative = f.negative; rise = f.rise; long = f.long }))
      back g (stuck q f) = stuck q f

-- At a stuck search's edge an amount is less than d from its bound: streams that leave are nearly full, streams that enter nearly empty.
pub stuck_edge : (n : ℕ) (ss : List Stream) (xs es : List ℕ) (d root : ℕ) (ls : List Bool) → Stuck n ss xs es d root ls → (k : ℕ) → k < length ss
    → ((start_in ss ls k ≡ true → end_in ss ls k ≡ false → high_of (stream_at ss k) < get_or xs k 0 + d) × (start_in ss ls k ≡ false → end_in ss ls k ≡ true → get_or xs k 0 < low_of (stream_at ss k) + d))
stuck_edge n ss xs es d root ls h k l = (
  λ a b. elim (dec_le (get_or xs k 0 + d) (high_of (stream_at ss k))) [ yes z ↦ absurd (h.shut k l (rw (a, b)) (rw a z)) | no z ↦ omega arith ],
  λ a b. elim (dec_le (low_of (stream_at ss k) + d) (get_or xs k 0)) [ yes z ↦ absurd (h.shut k l (rw (a, b)) (rw a z)) | no z ↦ omega arith ],
)

-- Where nothing is found, the potentials are as they were.
pub sought_stays : (ss : List Stream) (xs es ps : List ℕ) (d s : ℕ) → (sought ss xs es ps d s).found ≡ false → (sought ss xs es ps d s).potentials ≡ ps
unfolding sought
sought_stays ss xs es ps d s e = ap (λ (b : Bool). pick b (grow ss (length ss) xs es d search_rounds ps (root_at s)).potentials ps) e

-- The search: what holds of its tree and potentials, round by round.
use mathlib.Core.Path.{◌≡◌, refl, sym, ◌∙◌, ap}
use mathlib.Core.Bool.{Bool, true, false, ◌||◌, not, true≢false, false≢true}
use mathlib.Core.List.{List}
use Prim.Native.Nat.{ℕ, zero, suc, ◌+◌, ◌-◌, ◌*◌, ◌≤◌, ◌<◌}
use native.Mathlib.Nat.{mul-le-mul, mul-le-mul_left}
use native.Mathlib.Omega.{arith}
use native.Mathlib.Decide.{ℕ_discrete}
use borrow.Author.Tests.{eq-eqb, ne_eqb, eqb-true, eqb-false, not-true, not-false}
use lib.Dec.{eqb}
use lib.ListN.{length, get_or, set, replicate, length-set}
use lib.Seq.{get_or-set_same, get_or-set_other}
use Rattle.num_bytes.specs.Choice.{pick}
use Rattle.num_bytes.proofs.Tests.{by_cases}
use Rattle.num_bytes.proofs.Filled.{blank_at}
use Rattle.plant_def.specs.declared.Stream.{Stream}
use Rattle.plant_def.specs.Limits.{places, max_units, max_streams, max_weight}
use Rattle.flow_def.specs.Flows.{stream_at}
use Rattle.flow_def.proofs.Reach.{Inside}
use Rattle.solve_def.specs.declared.Tree.{Tree}
use Rattle.flow_def.specs.Certificate.{weight_of}
use Rattle.solve_def.specs.Sizes.{most_step, most_reading, most_amount, most_marginal, farthest}
use Rattle.solve_def.specs.Held.{reading_of, low_of, high_of, StepMet, AllStepsMet}
use Rattle.solve_def.specs.SearchNeeds.{SizeWithin, Moderate}
use Rattle.solve_def.specs.ReducedCosts.{reduced_cost_by, reduced_cost_at}
use Rattle.solve_def.specs.Search.{fallen, lowered_by, far_end, root_at, added_to}
use Rattle.solve_def.specs.Augment.{other_end}
use Rattle.solve_def.proofs.Amounts.{get_set}
use Rattle.solve_def.proofs.Elements.{lowered_at}
use Rattle.solve_def.proofs.Least.{start_in, end_in}
use Rattle.solve_def.specs.Counts.{count_places}
use Rattle.solve_def.proofs.Counting.{count_most, count_none, count_more}
use Rattle.solve_def.proofs.Bounds.{HasRoom, reduced_with_room, room_of}
use Rattle.solve_def.proofs.Augmenting.{reached, Link, both_reached}

-- Streams among places 0 to n, as far as the search needs them.
pub record Plain (n : ℕ) (ss : List Stream) : Type 0 where
  pub inside : Inside n ss
  pub small : n ≤ max_units
  pub few : length ss ≤ max_streams
  pub light : (k : ℕ) → k < length ss → weight_of (stream_at ss k) ≤ max_weight
  pub read : (k : ℕ) → k < length ss → (stream_at ss k).metered ≡ true → SizeWithin most_reading (reading_of (stream_at ss k))

-- One stream keeps the step condition while potentials fall by no more than its reduced cost.
met_kept : (a b : Bool) (s : Stream) (x pu pv d g : ℕ) → StepMet d (weight_of s) x (reading_of s) pu pv (low_of s) (high_of s) → (a ≡ true → g ≤ pu) → (b ≡ true → g ≤ pv)
    → (a ≡ not b → g ≤ reduced_cost_by s a x pu pv d) → StepMet d (weight_of s) x (reading_of s) (fallen a g pu) (fallen b g pv) (low_of s) (high_of s)
met_kept true true s x pu pv d g h hu hv c =
    record { low = λ o. omega (arith, h.low o, hu refl, hv refl); high = λ o. omega (arith, h.high o, hu refl, hv refl) }
met_kept true false s x pu pv d g h hu hv c =
    record { low = λ o. omega (arith, h.low o, hu refl); high = λ o. omega (arith, h.high o, hu refl, c refl, reduced_with_room true s x pu pv d o) }
met_kept false true s x pu pv d g h hu hv c =
    record { low = λ o. omega (arith, h.low o, hv refl, c refl, reduced_with_room false s x pu pv d o); high = λ o. omega (arith, h.high o, hv refl) }
met_kept false false s x pu pv d g h hu hv c = h

-- The reduced cost after both potentials fell alike, and after the visited end's fell by it.
reduced_both : (b : Bool) (s : Stream) (x pu pv d g : ℕ) → g ≤ pu → g ≤ pv → reduced_cost_by s b x pu pv d ≡ 0 → reduced_cost_by s b x (pu - g) (pv - g) d ≡ 0
reduced_both b s x pu pv d g hu hv e = go b (room_of b s x pu pv d (omega arith)) e
  where
    go : (b : Bool) → HasRoom s b x d → reduced_cost_by s b x pu pv d ≡ 0 → reduced_cost_by s b x (pu - g) (pv - g) d ≡ 0
    go true o e = reduced_with_room true s x (pu - g) (pv - g) d o ∙ omega (arith, reduced_with_room true s x pu pv d o, e)
    go false o e = reduced_with_room false s x (pu - g) (pv - g) d o ∙ omega (arith, reduced_with_room false s x pu pv d o, e)

-- Potentials that fall by the reduced cost leave none.
pub reduced_gone : (a b : Bool) (s : Stream) (x pu pv d g : ℕ) → a ≡ not b → (a ≡ true → g ≤ pu) → (b ≡ true → g ≤ pv) → g ≡ reduced_cost_by s a x pu pv d → g < farthest
    → reduced_cost_by s a x (fallen a g pu) (fallen b g pv) d ≡ 0
reduced_gone true true s x pu pv d g c hu hv e f = absurd (true≢false c)
reduced_gone true false s x pu pv d g c hu hv e f =
    let o : HasRoom s true x d = room_of true s x pu pv d (omega arith) in
    reduced_with_room true s x (pu - g) pv d o ∙ omega (arith, reduced_with_room true s x pu pv d o, e, hu refl)
reduced_gone false true s x pu pv d g c hu hv e f =
    let o : HasRoom s false x d = room_of false s x pu pv d (omega arith) in
    reduced_with_room false s x pu (pv - g) d o ∙ omega (arith, reduced_with_room false s x pu pv d o, e, hv refl)
reduced_gone false false s x pu pv d g c hu hv e f = absurd (false≢true c)

-- Where a stream is metered, its amount and its reading are of sizes provided for.
abbrev pub Modest : Stream → ℕ → Type 0
Modest s x = s.metered ≡ true → SizeWithin most_amount x × SizeWithin most_reading (reading_of s)

-- The marginals, the step's share added, are at most most_marginal; an unmetered stream's are 0.
pub marginals : (s : Stream) (x d : ℕ) → weight_of s ≤ max_weight → d ≤ most_step → Modest s x
    → (2 * (weight_of s * x) + weight_of s * d ≤ 2 * (weight_of s * reading_of s) + most_marginal) × (2 * (weight_of s * reading_of s) + weight_of s * d ≤ 2 * (weight_of s * x) + most_marginal)
marginals s x d light step modest = by_cases s.metered (λ m. some m (modest m)) (λ m. let z : weight_of s ≡ 0 = rw m in rw z (omega arith, omega arith))
  where
    apart : (w x r : ℕ) → x ≤ r + (most_amount + most_reading) → w ≤ max_weight → w * x ≤ w * r + max_weight * (most_amount + most_reading)
    apart w x r h l = let a = mul-le-mul_left w h in omega (arith, a)

    some : s.metered ≡ true → SizeWithin most_amount x × SizeWithin most_reading (reading_of s)
        → (2 * (weight_of s * x) + weight_of s * d ≤ 2 * (weight_of s * reading_of s) + most_marginal) × (2 * (weight_of s * reading_of s) + weight_of s * d ≤ 2 * (weight_of s * x) + most_marginal)
    some m c =
        let a = apart (weight_of s) x (reading_of s) (omega (arith, c.0.0, c.1.1)) light in
        let b = apart (weight_of s) (reading_of s) x (omega (arith, c.0.1, c.1.0)) light in
        let e : weight_of s * d ≤ max_weight * most_step = mul-le-mul light step in
        (omega (arith, a, e), omega (arith, b, e))

-- How large the reduced cost of a stream with room is, by the potentials of the ends; and one without reduced cost: its ends' potentials are within most_marginal of
-- each other.
pub reduced_rise : (f : Bool) (s : Stream) (x pu pv d : ℕ) → StepMet d (weight_of s) x (reading_of s) pu pv (low_of s) (high_of s) → weight_of s ≤ max_weight → d ≤ most_step → Modest s x
    → HasRoom s f x d → reduced_cost_by s f x pu pv d + pick f pv pu ≤ pick f pu pv + most_marginal
reduced_rise true s x pu pv d h light step modest o =
    let m = marginals s x d light step modest in omega (arith, reduced_with_room true s x pu pv d o, h.high o, m.0)
reduced_rise false s x pu pv d h light step modest o =
    let m = marginals s x d light step modest in omega (arith, reduced_with_room false s x pu pv d o, h.low o, m.1)

reduced_none : (f : Bool) (s : Stream) (x pu pv d : ℕ) → StepMet d (weight_of s) x (reading_of s) pu pv (low_of s) (high_of s) → weight_of s ≤ max_weight → d ≤ most_step → Modest s x
    → reduced_cost_by s f x pu pv d ≡ 0 → (pu ≤ pv + most_marginal) × (pv ≤ pu + most_marginal)
reduced_none f s x pu pv d h light step modest e = go f e (room_of f s x pu pv d (omega arith))
  where
    go : (f : Bool) → reduced_cost_by s f x pu pv d ≡ 0 → HasRoom s f x d → (pu ≤ pv + most_marginal) × (pv ≤ pu + most_marginal)
    go true e o =
        let m = marginals s x d light step modest in
        (omega (arith, reduced_with_room true s x pu pv d o, e, h.high o, m.1), omega (arith, reduced_with_room true s x pu pv d o, e, h.high o, m.0))
    go false e o =
        let m = marginals s x d light step modest in
        (omega (arith, reduced_with_room false s x pu pv d o, e, h.low o, m.1), omega (arith, reduced_with_room false s x pu pv d o, e, h.low o, m.0))

-- A store past the places that are looked at.
reached_set : (root : ℕ) (ends : List ℕ) (m e j v : ℕ) → j ≤ m → reached root (set ends m e) j v ≡ reached root ends j v
reached_set root ends m e zero v l = refl
reached_set root ends m e (suc j) v l = rw (get_or-set_other ends m j e 0 (λ q. omega arith), reached_set root ends m e j v (omega arith))

-- What holds of a tree and potentials during a search.
pub record Growing (n : ℕ) (ss : List Stream) (xs : List ℕ) (d root : ℕ) (ps : List ℕ) (t : Tree) : Type 0 where
  pub met : AllStepsMet ss xs ps d
  pub visits : length t.visited ≡ places
  pub vias : length t.via ≡ places
  pub endings : length t.ends ≡ places
  pub reaches_all : (v : ℕ) → v < places → get_or t.visited v false ≡ reached root t.ends t.len v
  pub links : (k : ℕ) → k < t.len → Link ss xs ps d root t.via t.ends k
  pub counted : count_places n (λ v. get_or t.visited v false) ≡ suc t.len

-- Any two visited places have potentials within most_marginal of each other for each place visited after the first.
abbrev pub Level : List ℕ → Tree → Type 0
Level ps t = (u v : ℕ) → u < places → v < places → get_or t.visited u false ≡ true → get_or t.visited v false ≡ true
    → get_or ps u 0 ≤ get_or ps v 0 + most_marginal * t.len

-- The tree of one place.
pub root_growing : (n : ℕ) (ss : List Stream) (xs ps : List ℕ) (d root : ℕ) → n ≤ max_units → root ≤ n → AllStepsMet ss xs ps d → Growing n ss xs d root ps (root_at root)
root_growing n ss xs ps d root small l h = record {
  met = h;
  visits = length-set (replicate places false) root true;
  vias = refl;
  endings = refl;
  reaches_all = λ v m. get_set (replicate places false) root v true false (omega arith) ∙ go v m (eqb root v);
  links = λ k m. absurd (omega arith);
  counted =
      count_more n root (λ v. false) (λ v. get_or (set (replicate places false) root true) v false) l refl
      (get_or-set_same (replicate places false) root true false (omega arith)) (λ v q. get_or-set_other (replicate places false) root v true false q ∙ none v)
      ∙ ap suc (count_none n (λ v. false) (λ v m. refl));
}
  where
    none : (v : ℕ) → get_or (replicate places false) v false ≡ false
    none v = blank_at false places v

    go : (v : ℕ) → v < places → (b : Bool) → pick b true (get_or (replicate places false) v false) ≡ b
    go v m true = refl
    go v m false = none v

module _ (n : ℕ) (ss : List Stream) (plain : Plain n ss) (xs : List ℕ) (d root : ℕ) where
  -- The start of a stream is a place.
  pub from_small : (k : ℕ) → k < length ss → (stream_at ss k).from < places
  from_small k l = omega (arith, (plain.inside k l).0, plain.small)

  -- So is its end.
  pub to_small : (k : ℕ) → k < length ss → (stream_at ss k).to < places
  to_small k l = omega (arith, (plain.inside k l).1, plain.small)

  -- Moderate amounts are modest, stream by stream.
  pub modest : Moderate ss xs → (k : ℕ) → k < length ss → Modest (stream_at ss k) (get_or xs k 0)
  modest moderate k l m = (moderate k l m, plain.read k l m)

  -- The potentials are lowered.
  pub lower_growing : (ps : List ℕ) (t : Tree) (g : ℕ) → Growing n ss xs d root ps t → ((u : ℕ) → u < places → get_or t.visited u false ≡ true → g ≤ get_or ps u 0)
      → ((k : ℕ) → k < length ss → start_in ss t.visited k ≡ not (end_in ss t.visited k) → g ≤ reduced_cost_at ss xs ps d k (start_in ss t.visited k))
      → Growing n ss xs d root (lowered_by t.visited g ps) t
  lower_growing ps t g h room lack =
      record { met = met; visits = h.visits; vias = h.vias; endings = h.endings; reaches_all = h.reaches_all; links = links; counted = h.counted }
    where
      met : AllStepsMet ss xs (lowered_by t.visited g ps) d
      met k l = rw (lowered_at t.visited g ps (stream_at ss k).from, lowered_at t.visited g ps (stream_at ss k).to)
          (met_kept (start_in ss t.visited k) (end_in ss t.visited k) (stream_at ss k) (get_or xs k 0) (get_or ps (stream_at ss k).from 0)
          (get_or ps (stream_at ss k).to 0) d g (h.met k l) (room (stream_at ss k).from (from_small k l)) (room (stream_at ss k).to (to_small k l)) (lack k l))

      links : (k : ℕ) → k < t.len → Link ss xs (lowered_by t.visited g ps) d root t.via t.ends k
      links k l =
          let m = h.links k l in
          let i : ℕ = get_or t.via k 0 in
          let b = both_reached ss ps d root t.via t.ends xs k t.len l m in
          let bf : get_or t.visited (stream_at ss i).from false ≡ true = h.reaches_all (stream_at ss i).from (from_small i m.inside) ∙ b.0 in
          let bt : get_or t.visited (stream_at ss i).to false ≡ true = h.reaches_all (stream_at ss i).to (to_small i m.inside) ∙ b.1 in
          record {
            inside = m.inside;
            fresh = m.fresh;
            joins = m.joins;
            touch = m.touch;
            tight = rw (lowered_at t.visited g ps (stream_at ss i).from, lowered_at t.visited g ps (stream_at ss i).to, bf, bt)
                (reduced_both (eqb (stream_at ss i).to (get_or t.ends k 0)) (stream_at ss i) (get_or xs i 0) (get_or ps (stream_at ss i).from 0)
                (get_or ps (stream_at ss i).to 0) d g (room (stream_at ss i).from (from_small i m.inside) bf) (room (stream_at ss i).to (to_small i m.inside) bt)
                m.tight);
            room = m.room;
          }

  -- Visited potentials that fall together stay as near to one another.
  pub lower_level : (ps : List ℕ) (t : Tree) (g : ℕ) → Level ps t → ((u : ℕ) → u < places → get_or t.visited u false ≡ true → g ≤ get_or ps u 0)
      → Level (lowered_by t.visited g ps) t
  lower_level ps t g h room u v lu lv a b = rw (lowered_at t.visited g ps u, lowered_at t.visited g ps v, a, b) (omega (arith, h u v lu lv a b, room u lu a, room v lv b))

  -- The ends of a stream that leaves the visited places.
  far_facts : (ls : List Bool) (s : Stream) → get_or ls s.from false ≡ not (get_or ls s.to false)
      → (get_or ls (far_end ls s) false ≡ false) × (eqb s.to (far_end ls s) ≡ get_or ls s.from false) × (get_or ls (other_end s (far_end ls s)) false ≡ true)
      × (get_or ls s.from false ≡ false → s.from ≡ far_end ls s)
  far_facts ls s c = by_cases (get_or ls s.from false)
      (λ t. let q : far_end ls s ≡ s.to = ap (λ (b : Bool). pick b s.to s.from) t in
      let o : eqb s.to s.to ≡ true = eq-eqb s.to s.to refl in
      rw q (not-true (get_or ls s.to false) (sym c ∙ t), o ∙ sym t, rw o t, λ z. absurd (true≢false (sym t ∙ z))))
      (λ t. let q : far_end ls s ≡ s.from = ap (λ (b : Bool). pick b s.to s.from) t in
      let u : get_or ls s.to false ≡ true = not-false (get_or ls s.to false) (sym c ∙ t) in
      let o : eqb s.to s.from ≡ false = ne_eqb s.to s.from (λ z. true≢false (sym u ∙ ap (λ (v : ℕ). get_or ls v false) z ∙ t)) in
      rw q (t, o ∙ sym t, rw o u, λ z. refl))

  -- The far end is a place of the plant.
  pub far_near : (ls : List Bool) (k : ℕ) → k < length ss → far_end ls (stream_at ss k) ≤ n
  far_near ls k l = by_cases (get_or ls (stream_at ss k).from false) (λ t. rw t (plain.inside k l).1) (λ t. rw t (plain.inside k l).0)

  -- There is a place that is not visited.
  pub some_left : (ps : List ℕ) (t : Tree) (e : ℕ) → Growing n ss xs d root ps t → e ≤ n → get_or t.visited e false ≡ false → t.len < n
  some_left ps t e h le off =
      let marked = get_or-set_same t.visited e true false (rw h.visits (omega (arith, plain.small))) in
      let more = count_more n e (λ v. get_or t.visited v false) (λ v. get_or (set t.visited e true) v false) le off marked
      (λ v q. get_or-set_other t.visited e v true false q) in
      omega (arith, h.counted, more, count_most n (λ v. get_or (set t.visited e true) v false))

  -- It is not visited.
  pub far_off : (ls : List Bool) (s : Stream) → get_or ls s.from false ≡ not (get_or ls s.to false) → get_or ls (far_end ls s) false ≡ false
  far_off ls s c = (far_facts ls s c).0

  -- One place more is visited: it is within most_marginal of the end from which the stream leads there.
  pub add_level : (ps : List ℕ) (t : Tree) (i : ℕ) → Growing n ss xs d root ps t → Level ps t → d ≤ most_step → Moderate ss xs → i < length ss
      → start_in ss t.visited i ≡ not (end_in ss t.visited i) → reduced_cost_at ss xs ps d i (start_in ss t.visited i) ≡ 0
      → Level ps (added_to t i (far_end t.visited (stream_at ss i)))
  add_level ps t i h level step moderate li c z u v lu lv a b = by_cases (eqb e u)
      (λ p. let o : e ≡ u = eqb-true e u p in by_cases (eqb e v)
      (λ q. let y : e ≡ v = eqb-true e v q in rw (← o, ← y) (omega arith))
      (λ q. rw (← o) (omega (arith, near.1, level x v lx lv on (old v (eqb-false e v q) b)))))
      (λ p. by_cases (eqb e v)
      (λ q. let y : e ≡ v = eqb-true e v q in rw (← y) (omega (arith, near.0, level u x lu lx (old u (eqb-false e u p) a) on)))
      (λ q. omega (arith, level u v lu lv (old u (eqb-false e u p) a) (old v (eqb-false e v q) b))))
    where
      s : Stream
      s = stream_at ss i

      e : ℕ
      e = far_end t.visited (stream_at ss i)

      x : ℕ
      x = pick (start_in ss t.visited i) s.from s.to

      old : (v : ℕ) → (e ≡ v → ⊥) → get_or (set t.visited e true) v false ≡ true → get_or t.visited v false ≡ true
      old v q o = sym (get_or-set_other t.visited e v true false (λ y. q (sym y))) ∙ o

      both : (get_or ps s.from 0 ≤ get_or ps s.to 0 + most_marginal) × (get_or ps s.to 0 ≤ get_or ps s.from 0 + most_marginal)
      both = reduced_none (start_in ss t.visited i) s (get_or xs i 0) _ _ d (h.met i li) (plain.light i li) step (modest moderate i li) z

      lx : x < places
      lx = by_cases (start_in ss t.visited i) (λ q. rw q (from_small i li)) (λ q. rw q (to_small i li))

      on : get_or t.visited x false ≡ true
      on = by_cases (start_in ss t.visited i) (λ q. rw q q) (λ q. rw q (not-false (end_in ss t.visited i) (sym c ∙ q)))

      near : (get_or ps x 0 ≤ get_or ps e 0 + most_marginal) × (get_or ps e 0 ≤ get_or ps x 0 + most_marginal)
      near = by_cases (start_in ss t.visited i) (λ q. rw q both) (λ q. rw q (both.1, both.0))

  -- One place more is visited.
  pub add_growing : (ps : List ℕ) (t : Tree) (i : ℕ) → Growing n ss xs d root ps t → i < length ss → start_in ss t.visited i ≡ not (end_in ss t.visited i)
      → reduced_cost_at ss xs ps d i (start_in ss t.visited i) ≡ 0 → d ≤ get_or xs i 0
      → Growing n ss xs d root ps (added_to t i (far_end t.visited (stream_at ss i)))
  add_growing ps t i h li c z room = record {
    met = h.met;
    visits = length-set t.visited e true ∙ h.visits;
    vias = length-set t.via t.len i ∙ h.vias;
    endings = length-set t.ends t.len e ∙ h.endings;
    reaches_all = reaches_all;
    links = links;
    counted =
        count_more n e (λ v. get_or t.visited v false) (λ v. get_or (set t.visited e true) v false) le f.0 (get_or-set_same t.visited e true false small_e)
        (λ v q. get_or-set_other t.visited e v true false q)
        ∙ ap suc h.counted ∙ omega arith;
  }
    where
      s : Stream
      s = stream_at ss i

      e : ℕ
      e = far_end t.visited s

      f : (get_or t.visited e false ≡ false) × (eqb s.to e ≡ get_or t.visited s.from false) × (get_or t.visited (other_end s e) false ≡ true)
          × (get_or t.visited s.from false ≡ false → s.from ≡ e)
      f = far_facts t.visited s c

      le : e ≤ n
      le = far_near t.visited i li

      small_e : e < length t.visited
      small_e = rw h.visits (omega (arith, le, plain.small))

      few : t.len < places
      few = omega (arith, some_left ps t e h le f.0, plain.small)

      -- The new place and its stream, as they are stored.
      end_new : get_or (set t.ends t.len e) t.len 0 ≡ e
      end_new = get_or-set_same t.ends t.len e 0 (rw h.endings few)

      via_new : get_or (set t.via t.len i) t.len 0 ≡ i
      via_new = get_or-set_same t.via t.len i 0 (rw h.vias few)

      end_old : (k : ℕ) → k < t.len → get_or (set t.ends t.len e) k 0 ≡ get_or t.ends k 0
      end_old k l = get_or-set_other t.ends t.len k e 0 (λ q. omega arith)

      via_old : (k : ℕ) → k < t.len → get_or (set t.via t.len i) k 0 ≡ get_or t.via k 0
      via_old k l = get_or-set_other t.via t.len k i 0 (λ q. omega arith)

      suc_len : t.len + 1 ≡ suc t.len
      suc_len = omega arith

      reaches_all : (v : ℕ) → v < places → get_or (set t.visited e true) v false ≡ reached root (set t.ends t.len e) (t.len + 1) v
      reaches_all v l =
          get_set t.visited e v true false small_e
          ∙ rw (suc_len, end_new, reached_set root t.ends t.len e t.len v (omega arith), ← h.reaches_all v l) (or_pick (eqb e v) (get_or t.visited v false))
        where
          or_pick : (a b : Bool) → pick a true b ≡ a || b
          or_pick true b = refl
          or_pick false b = refl

      marked : (v : ℕ) → v < places → reached root (set t.ends t.len e) t.len v ≡ get_or t.visited v false
      marked v l = reached_set root t.ends t.len e t.len v (omega arith) ∙ sym (h.reaches_all v l)

      other_small : other_end s e < places
      other_small = by_cases (eqb s.to e) (λ q. rw q (from_small i li)) (λ q. rw q (to_small i li))

      links : (k : ℕ) → k < t.len + 1 → Link ss xs ps d root (set t.via t.len i) (set t.ends t.len e) k
      links k l = elim (ℕ_discrete k t.len) [
        | yes q ↦ rw q (record {
          inside = rw via_new li;
          fresh = rw end_new (marked e (omega (arith, le, plain.small)) ∙ f.0);
          joins = rw (end_new, via_new) (marked (other_end s e) other_small ∙ f.2);
          touch = rw (end_new, via_new) (λ o. f.3 (sym f.1 ∙ o));
          tight = rw (end_new, via_new, f.1) z;
          room = rw via_new room;
        })
        | no q ↦ let m = h.links k (omega arith) in
            let a = end_old k (omega arith) in let b = via_old k (omega arith) in
            let r : (v : ℕ) → reached root (set t.ends t.len e) k v ≡ reached root t.ends k v = λ v. reached_set root t.ends t.len e k v (omega arith) in
            record {
              inside = rw b m.inside;
              fresh = r _ ∙ rw a m.fresh;
              joins = r _ ∙ rw (a, b) m.joins;
              touch = rw (a, b) m.touch;
              tight = rw (a, b) m.tight;
              room = rw b m.room;
            }
      ]

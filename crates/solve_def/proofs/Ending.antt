-- From a hint or from none to the end: a level flow in range that meets the step condition, or a set that is overfull.
use mathlib.Core.Path.{◌≡◌, refl, sym, ◌∙◌, ap, subst}
use mathlib.Core.Bool.{Bool, true, false}
use mathlib.Core.List.{List}
use mathlib.Core.Logic.{⊎_elim}
use lib.IntN.{ℤ, pos, nat_abs}
use Prim.Native.Nat.{ℕ, ◌+◌, ◌*◌, ◌≤◌, ◌<◌}
use native.Mathlib.Nat.{mul-le-mul_left, mul-le-mul_right}
use native.Mathlib.Omega.{arith}
use native.Mathlib.Decide.{dec_le, ℕ_discrete}
use borrow.Author.Tests.{leb-true}
use lib.Dec.{leb}
use lib.ListN.{length, get_or, length-replicate, get_or-replicate}
use Rattle.num_bytes.proofs.Tests.{picked}
use Rattle.plant_def.specs.declared.Stream.{Stream}
use Rattle.plant_def.specs.Limits.{max_units, places, max_streams}
use Rattle.flow_def.specs.Flows.{stream_at}
use Rattle.flow_def.specs.Certificate.{weight_of}
use Rattle.num_bytes.proofs.Integers.{up, dn, Le, parts, size_val}
use Rattle.flow_def.proofs.Reach.{Inside}
use Rattle.num_bytes.proofs.Sums.{sum, sum_none, sum_tight}
use Rattle.flow_def.proofs.Nets.{net_of, nets_sum}
use Rattle.solve_def.specs.Sizes.{flow_shift, potential_shift, most_reading, most_range, most_tried, halvings, hint_room, settled_room}
use Rattle.solve_def.specs.Held.{unshifted, reading_of, low_of, high_of, StepMet}
use Rattle.solve_def.specs.SearchNeeds.{SizeWithin}
use Rattle.solve_def.specs.declared.State.{State}
use Rattle.solve_def.specs.declared.Ended.{Ended}
use Rattle.solve_def.specs.Model.{settled, excess_sum, no_hint, phase, phases, finished}
use Rattle.solve_def.specs.SolverNeeds.{Start, Hinted, AtHint, Underway, Even}
use Rattle.solve_def.proofs.Amounts.{net, unshifted_val}
use Rattle.solve_def.proofs.Bounds.{weight_some}
use Rattle.solve_def.proofs.Ranged.{Ranged}
use Rattle.solve_def.proofs.Streams.{Solvable}
use Rattle.solve_def.proofs.Overs.{over_start}
use Rattle.solve_def.proofs.Nearest.{start_more, ys, settled_one, settled_free, settled_over, settled_sound}
use Rattle.solve_def.proofs.Tall.{sound_tall}
use Rattle.solve_def.proofs.Steady.{steps_over, nets_val, sound_within}
use Rattle.solve_def.proofs.Phases.{Finished, Stage, last_phase, phases_good}

-- At equal potentials an amount is the nearest in range to its reading: of size most_range at most.
level_within : (s : Stream) (X p : ℕ) → Ranged s → SizeWithin most_reading (reading_of s) → 1 ≤ weight_of s → StepMet 1 (weight_of s) X (reading_of s) p p (low_of s) (high_of s)
    → (low_of s ≤ X) × (X ≤ high_of s) → SizeWithin most_range X
level_within s X p r z w h i = elim (ℕ_discrete (low_of s) 0) [
  | yes e ↦ (most e, least e)
  | no e ↦ (omega (arith, (r.sized (omega arith)).1, i.1), omega (arith, (r.sized (omega arith)).0, i.0))
]
  where
    most : low_of s ≡ 0 → X ≤ flow_shift + most_range
    most e = elim (dec_le X (reading_of s)) [ yes k ↦ omega (arith, z.0) | no k ↦ absurd (above (omega arith)) ]
      where
        above : reading_of s + 1 ≤ X → ⊥
        above k = omega (arith, mul-le-mul_left (weight_of s) k, h.low (omega (arith, e)), w)

    least : low_of s ≡ 0 → flow_shift ≤ X + most_range
    least e = elim (dec_le (reading_of s) X) [ yes k ↦ omega (arith, z.1) | no k ↦ absurd (below (omega arith)) ]
      where
        below : X + 1 ≤ reading_of s → ⊥
        below k = omega (arith, mul-le-mul_left (weight_of s) k, h.high (omega (arith, r.wide e, z.0)), w)

-- No hint: all potentials are 0, and so are the amounts of the unmetered streams.
module _ (ss : List Stream) (v : Solvable ss) where
  potential : (u : ℕ) → u < places → get_or no_hint.potentials u 0 ≡ potential_shift
  potential u l = get_or-replicate {A = ℕ} places u potential_shift 0 l

  -- Without a hint the start is one.
  pub none_start : Start ss 0 no_hint
  none_start = record {
    agree = λ k l e. potential (stream_at ss k).from (omega (arith, (v.plain.inside k l).0)) ∙ sym (potential (stream_at ss k).to (omega (arith, (v.plain.inside k l).1)));
    floor = λ u l. omega (arith, potential u l);
    capped = λ u l. omega (arith, potential u l);
    per_place = length-replicate {A = ℕ} places potential_shift;
    long = length-replicate {A = ℕ} max_streams flow_shift;
    unmetered = λ k l e. let q : get_or no_hint.flows k 0 ≡ flow_shift = get_or-replicate {A = ℕ} max_streams k flow_shift 0 l in (omega (arith, q), omega (arith, q));
    within = omega arith;
  }

  -- And it is as a hint must be.
  pub none_hinted : Hinted ss no_hint
  none_hinted = start_more ss 0 hint_room no_hint none_start (omega arith) (omega arith)

  none_within : (k : ℕ) → k < length ss → nat_abs (unshifted (get_or (ys ss v no_hint 0 none_start) k 0)) ≤ most_range
  none_within k l = go (stream_at ss k).metered refl
    where
      X : ℕ
      X = get_or (ys ss v no_hint 0 none_start) k 0

      size : SizeWithin most_range X → nat_abs (unshifted X) ≤ most_range
      size c = ⊎_elim
          (λ (o : up (unshifted X) ≡ 0). omega (arith, o, size_val (unshifted X), unshifted_val X, c.1))
          (λ (o : dn (unshifted X) ≡ 0). omega (arith, o, size_val (unshifted X), unshifted_val X, c.0))
          (parts (unshifted X))

      go : (m : Bool) → (stream_at ss k).metered ≡ m → nat_abs (unshifted (get_or (ys ss v no_hint 0 none_start) k 0)) ≤ most_range
      go true e =
          let o = settled_one ss v no_hint 0 none_start k l in
          let a : get_or no_hint.potentials (stream_at ss k).from 0 ≡ potential_shift = potential (stream_at ss k).from (omega (arith, (v.plain.inside k l).0)) in
          let c : get_or no_hint.potentials (stream_at ss k).to 0 ≡ potential_shift = potential (stream_at ss k).to (omega (arith, (v.plain.inside k l).1)) in
          size (level_within (stream_at ss k) X potential_shift (v.ranged k l) (v.plain.read k l e) (rw (weight_some (stream_at ss k) e) (v.weighed k l e)) (rw (a, c) at o.0) o.1)
      go false e =
          let q : get_or no_hint.flows k 0 ≡ flow_shift = get_or-replicate {A = ℕ} max_streams k flow_shift 0 (omega (arith, v.plain.few)) in
          let f = settled_free ss v no_hint 0 none_start k e in
          size (omega (arith, f, q), omega (arith, f, q))

  -- What is over at that start.
  pub none_over : excess_sum (settled ss no_hint).nets ≤ max_streams * most_range
  none_over =
      omega (
        arith,
        over_start max_units ss (λ k. unshifted (get_or (ys ss v no_hint 0 none_start) k 0)) v.plain.inside most_range none_within,
        settled_over ss v no_hint 0 none_start,
        mul-le-mul_right most_range v.plain.few,
      )

  -- So the first phase can begin there.
  pub none_stage : Stage ss halvings 0 no_hint
  none_stage = record { start = none_start; over = omega (arith, none_over) }

-- Settled at a hint with little over.
module _ (ss : List Stream) (v : Solvable ss) (st : State) (s : AtHint ss st) where
  -- A hint that leaves little over can go straight to step 1.
  pub hint_underway : excess_sum st.nets ≤ most_tried → Underway ss 1 settled_room st
  hint_underway o = subst (Underway ss 1 settled_room) (sym s.is) (record {
    size = hint_room;
    sound = settled_sound ss v s.hint hint_room s.hinted 1 (omega arith) (omega (arith, little));
    fits = omega (arith, little, steps_over 1 (settled ss s.hint).nets);
  })
    where
      little : excess_sum (settled ss s.hint).nets ≤ most_tried
      little = subst (λ (r : State). excess_sum r.nets ≤ most_tried) s.is o

  -- From there the flow is finished.
  pub finished_good : Finished ss (finished ss st)
  unfolding finished
  finished_good = picked (Finished ss) (leb (excess_sum st.nets) most_tried) (phase ss 1 st) (phases halvings ss no_hint)
      (λ e. last_phase ss v settled_room st (omega arith) (hint_underway (leb-true (excess_sum st.nets) most_tried e)))
      (λ e. phases_good ss v halvings 0 no_hint (omega arith) (omega arith) (none_stage ss v))

-- Nets of which none is positive are 0: their sum is.
level_nets : (ss : List Stream) → Inside max_units ss → (x : ℕ → ℤ) → ((u : ℕ) → u ≤ max_units → up (net_of ss x u) ≡ 0) → (u : ℕ) → u ≤ max_units → net_of ss x u ≡ pos 0
level_nets ss w x h u l = sum_tight places (net_of ss x) (λ v. pos 0) (λ k m. omega (arith, h k (omega arith))) total u (omega arith)
  where
    total : Le (sum places (λ v. pos 0)) (sum places (net_of ss x))
    total = omega (arith, ap up (sum_none places (λ v. pos 0) (λ v m. refl)), ap dn (nets_sum max_units ss x w))

-- Where no set is full, the flow is level.
pub finished_even : (ss : List Stream) → Solvable ss → (r : Ended) → Finished ss r → r.full ≡ false → Even ss r.state.potentials 0 r.state.flows
finished_even ss v r h e = record {
  long = (h.underway e).sound.long;
  met = (h.underway e).sound.met;
  inside = (h.underway e).sound.inside;
  agreed = (h.underway e).sound.agreed;
  level = λ u l. level_nets ss v.plain.inside (λ k. unshifted (get_or r.state.flows k 0)) none u (omega arith);
  moderate = λ k l m.
      let q = sound_tall ss v 1 (h.underway e).size r.state (omega arith) (h.underway e).sound k l m in
      (omega (arith, q.0), omega (arith, q.1));
  floor = (h.underway e).sound.floor;
  sized = λ k l.
      let q = sound_within ss v 1 (h.underway e).size (omega arith, omega arith) r.state (h.underway e).sound (omega (arith, (h.underway e).fits)) k l in
      (omega (arith, q.0), omega (arith, q.1));
}
  where
    none : (u : ℕ) → u ≤ max_units → up (net ss r.state.flows u) ≡ 0
    none u l =
        let a = nets_val ss v 1 (h.underway e).size (omega arith, omega arith) r.state (h.underway e).sound (omega (arith, (h.underway e).fits)) u (omega arith) in
        let b = h.none e u (omega arith) in
        ⊎_elim (λ (o : up (net ss r.state.flows u) ≡ 0). o) (λ (o : dn (net ss r.state.flows u) ≡ 0). omega (arith, a, b, o))
        (parts (net ss r.state.flows u))

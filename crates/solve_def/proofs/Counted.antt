-- The count: of improvements and of stuck searches, in a phase, in all phases, and in a call.
use mathlib.Core.Path.{◌≡◌, refl, ap, subst}
use mathlib.Core.Bool.{Bool, true, false}
use mathlib.Core.List.{List, [], ◌∷◌}
use mathlib.Core.Logic.{◌⊎◌, inl, inr}
use lib.IntN.{ℤ, pos, ◌+ℤ◌}
use Prim.Native.Nat.{ℕ, zero, suc, ◌+◌, ◌-◌, ◌*◌, ◌^◌, ◌≤◌, ◌<◌}
use native.Mathlib.Nat.{mul-le-mul_left, mul-le-mul_right}
use native.Mathlib.Omega.{arith}
use native.Mathlib.Decide.{dec_le, ℕ_discrete}
use borrow.Author.Tests.{leb-true, leb-false}
use lib.Dec.{leb}
use lib.ListN.{length, get_or}
use lib.Pow.{pow_pos}
use Rattle.num_bytes.specs.Choice.{pick}
use Rattle.num_bytes.proofs.Tests.{by_cases}
use Rattle.plant_def.specs.declared.Stream.{Stream}
use Rattle.plant_def.specs.Limits.{max_units, places, max_streams}
use Rattle.flow_def.specs.Flows.{stream_at}
use Rattle.flow_def.specs.Certificate.{weight_of}
use Rattle.num_bytes.proofs.Integers.{up, dn, Le, plus_val, minus_val}
use Rattle.num_bytes.proofs.Sums.{sum}
use Rattle.flow_def.proofs.Nets.{nets_sum}
use Rattle.solve_def.specs.Sizes.{flow_shift, net_shift, most_step, most_excess, most_tried, halvings, settled_room}
use Rattle.solve_def.specs.Held.{unshifted, reading_of, low_of, high_of, StepMet}
use Rattle.solve_def.specs.declared.Hint.{Hint}
use Rattle.solve_def.specs.declared.State.{State}
use Rattle.solve_def.specs.declared.Ended.{Ended}
use Rattle.solve_def.specs.Model.{phase, settled, as_hint, no_hint, excess_sum, excess_steps}
use Rattle.solve_def.specs.SolverNeeds.{AtHint, Sound, Underway}
use Rattle.solve_def.proofs.Amounts.{net, unshifted_val}
use Rattle.solve_def.proofs.Bounds.{weight_some}
use Rattle.solve_def.proofs.Streams.{Solvable}
use Rattle.solve_def.proofs.Sums.{sum_holds}
use Rattle.solve_def.proofs.Overs.{over_moved}
use Rattle.solve_def.proofs.Nearest.{ys, sound_over, settled_one, settled_free, settled_over, again_start}
use Rattle.solve_def.proofs.Steady.{steps_over}
use Rattle.solve_def.proofs.Phases.{Phased, Stage, stage_underway, stage_phased, stage_next}
use Rattle.solve_def.proofs.Ending.{none_stage, none_over, hint_underway}
use Rattle.solve_def.specs.Made.{made_to, stuck_to, made_by, stuck_by, made, stuck}
use Rattle.solve_def.specs.Few.{Few, Effort}
use Rattle.solve_def.proofs.Paces.{phase_made, phase_stuck}

-- What the other phases make at most.
abbrev per_phase : ℕ
per_phase = 6335

-- Some net is not positive: their sum is 0.
low_or_high : (es : List ℕ) (n : ℕ) → ((u : ℕ) × (u < n) × (get_or es u 0 ≤ net_shift)) ⊎ ((u : ℕ) → u < n → net_shift < get_or es u 0)
low_or_high es zero = inr (λ u l. absurd (omega arith))
low_or_high es (suc n) = go (low_or_high es n)
  where
    go : ((u : ℕ) × (u < n) × (get_or es u 0 ≤ net_shift)) ⊎ ((u : ℕ) → u < n → net_shift < get_or es u 0)
        → ((u : ℕ) × (u < suc n) × (get_or es u 0 ≤ net_shift)) ⊎ ((u : ℕ) → u < suc n → net_shift < get_or es u 0)
    go (inl a) = inl (a.0, omega (arith, a.1), a.2)
    go (inr h) = elim (dec_le (get_or es n 0) net_shift) [
      | yes z ↦ inl (n, omega arith, z)
      | no z ↦ inr (λ u l. elim (ℕ_discrete u n) [ yes q ↦ rw q (omega arith) | no q ↦ h u (omega arith) ])
    ]

some_low : (ss : List Stream) → Solvable ss → (d b : ℕ) (st : State) → Sound ss d b st → (u : ℕ) × (u < places) × (get_or st.nets u 0 ≤ net_shift)
some_low ss v d b st h = go (low_or_high st.nets places)
  where
    go : ((u : ℕ) × (u < places) × (get_or st.nets u 0 ≤ net_shift)) ⊎ ((u : ℕ) → u < places → net_shift < get_or st.nets u 0)
        → (u : ℕ) × (u < places) × (get_or st.nets u 0 ≤ net_shift)
    go (inl a) = a
    go (inr a) = absurd (omega (
      arith,
      sum_holds (suc max_units) (net ss st.flows) (λ u l. omega (arith, positive u (omega arith))) 0 (omega arith),
      positive 0 (omega arith),
      ap up (nets_sum max_units ss (λ k. unshifted (get_or st.flows k 0)) v.plain.inside),
      ap dn (nets_sum max_units ss (λ k. unshifted (get_or st.flows k 0)) v.plain.inside),
    ))
      where
        positive : (u : ℕ) → u < places → dn (net ss st.flows u) + 1 ≤ up (net ss st.flows u)
        positive u l = rw (h.nets u l) (omega (arith, a u l, minus_val (pos (get_or st.nets u 0)) (pos net_shift)))

-- So what is over is at most b at each place but one.
over_most : (es : List ℕ) (b : ℕ) → ((u : ℕ) → u < length es → get_or es u 0 ≤ net_shift + b) → excess_sum es ≤ length es * b
unfolding excess_sum
over_most [] b h = omega arith
over_most (e ∷ es) b h = omega (arith, h 0 (omega arith), over_most es b (λ u l. h (suc u) (omega arith)))

over_but_one : (es : List ℕ) (b u : ℕ) → u < length es → get_or es u 0 ≤ net_shift → ((w : ℕ) → w < length es → get_or es w 0 ≤ net_shift + b)
    → excess_sum es + b ≤ length es * b
unfolding excess_sum
over_but_one [] b u l e h = absurd (omega arith)
over_but_one (x ∷ es) b zero l e h = omega (arith, over_most es b (λ w m. h (suc w) (omega arith)))
over_but_one (x ∷ es) b (suc u) l e h = omega (arith, h 0 (omega arith), over_but_one es b u (omega arith) e (λ w m. h (suc w) (omega arith)))

-- From step 2 on an amount that is settled anew moves by less than a step.
module _ (d w X Y R u v L H : ℕ) (two : 2 ≤ d) (l : 1 ≤ w) (a : StepMet d w X R u v L H) (b : StepMet 1 w Y R u v L H) (i : (L ≤ X) × (X ≤ H)) (j : (L ≤ Y) × (Y ≤ H)) where
  nearer_above : Y ≤ X + (d - 1)
  nearer_above = elim (dec_le Y (X + (d - 1))) [ yes k ↦ k | no k ↦ absurd (far (omega arith)) ]
    where
      far : X + d ≤ Y → ⊥
      far h = omega (arith, mul-le-mul_left w h, mul-le-mul_left w two, l, a.high (omega (arith, j.1)), b.low (omega (arith, i.0)))

  nearer_below : X ≤ Y + (d - 1)
  nearer_below = elim (dec_le X (Y + (d - 1))) [ yes k ↦ k | no k ↦ absurd (far (omega arith)) ]
    where
      far : Y + d ≤ X → ⊥
      far h = omega (arith, mul-le-mul_left w h, mul-le-mul_left w two, l, a.low (omega (arith, j.0)), b.high (omega (arith, i.1)))

module _ (ss : List Stream) (v : Solvable ss) (d b : ℕ) (two : 2 ≤ d) (st : State) (h : Sound ss d b st) (within : b ≤ flow_shift) where
  abbrev zs : List ℕ
  zs = ys ss v (as_hint st) b (again_start ss v d b st h within)

  nearer : (k : ℕ) → k < length ss → (get_or zs k 0 ≤ get_or st.flows k 0 + (d - 1)) × (get_or st.flows k 0 ≤ get_or zs k 0 + (d - 1))
  nearer k l = go (stream_at ss k).metered refl
    where
      t : Stream
      t = stream_at ss k

      go : (m : Bool) → (stream_at ss k).metered ≡ m → (get_or zs k 0 ≤ get_or st.flows k 0 + (d - 1)) × (get_or st.flows k 0 ≤ get_or zs k 0 + (d - 1))
      go true e =
          let o = settled_one ss v (as_hint st) b (again_start ss v d b st h within) k l in
          let w : 1 ≤ weight_of t = rw (weight_some t e) (v.weighed k l e) in (
            nearer_above d (weight_of t) (get_or st.flows k 0) (get_or zs k 0) (reading_of t) _ _ (low_of t) (high_of t) two w (h.met k l) o.0 (h.inside k l) o.1,
            nearer_below d (weight_of t) (get_or st.flows k 0) (get_or zs k 0) (reading_of t) _ _ (low_of t) (high_of t) two w (h.met k l) o.0 (h.inside k l) o.1,
          )
      go false e = let q = settled_free ss v (as_hint st) b (again_start ss v d b st h within) k e in (omega (arith, q), omega (arith, q))

  again_less : excess_sum (settled ss (as_hint st)).nets ≤ excess_sum st.nets + max_streams * (d - 1)
  again_less =
      omega (
        arith,
        over_moved max_units ss (λ k. unshifted (get_or zs k 0)) v.plain.inside (d - 1) (λ k. unshifted (get_or st.flows k 0)) moved,
        settled_over ss v (as_hint st) b (again_start ss v d b st h within),
        sound_over ss d b st h,
        mul-le-mul_right (d - 1) v.plain.few,
      )
    where
      moved : (k : ℕ) → k < length ss → Le (unshifted (get_or zs k 0)) (unshifted (get_or st.flows k 0) +ℤ pos (d - 1))
          × Le (unshifted (get_or st.flows k 0)) (unshifted (get_or zs k 0) +ℤ pos (d - 1))
      moved k l = (
        omega (arith, (nearer k l).0, unshifted_val (get_or zs k 0), unshifted_val (get_or st.flows k 0), plus_val (unshifted (get_or st.flows k 0)) (pos (d - 1))),
        omega (arith, (nearer k l).1, unshifted_val (get_or zs k 0), unshifted_val (get_or st.flows k 0), plus_val (unshifted (get_or zs k 0)) (pos (d - 1))),
      )

module _ (ss : List Stream) (v : Solvable ss) where
  -- After a phase at twice the step d, few steps are over.
  few_steps : (d t : ℕ) → 1 ≤ d → (e : Ended) → t ≤ settled_room → Phased ss (2 * d) t places e → e.full ≡ false
      → excess_steps d (settled ss (as_hint e.state)).nets ≤ per_phase
  few_steps d t l e m r f = elim (dec_le (excess_steps d (settled ss (as_hint e.state)).nets) per_phase) [ yes k ↦ k | no k ↦ absurd (many (omega arith)) ]
    where
      s : Sound ss (2 * d) r.underway.size e.state
      s = r.underway.sound

      low : (u : ℕ) × (u < places) × (get_or e.state.nets u 0 ≤ net_shift)
      low = some_low ss v (2 * d) r.underway.size e.state s

      left : excess_sum e.state.nets + max_streams * (2 * d - 1) ≤ places * (max_streams * (2 * d - 1))
      left =
          subst (λ (n : ℕ). excess_sum e.state.nets + max_streams * (2 * d - 1) ≤ n * (max_streams * (2 * d - 1))) s.netted
          (over_but_one e.state.nets (max_streams * (2 * d - 1)) low.0 (rw s.netted low.1) low.2 (λ w o. r.small f w (rw s.netted at o)))

      many : per_phase + 1 ≤ excess_steps d (settled ss (as_hint e.state)).nets → ⊥
      many k =
          omega (
            arith,
            mul-le-mul_left d k,
            steps_over d (settled ss (as_hint e.state)).nets,
            again_less ss v (2 * d) r.underway.size (omega (arith, l)) e.state s (omega (arith, r.underway.fits, m)),
            left,
            l,
          )

  -- A phase makes no more than there are steps over at its start, and at most 32 of its searches are stuck.
  phase_few : (d t : ℕ) → 1 ≤ d → d ≤ most_step → t ≤ settled_room → (st : State) → Underway ss d t st
      → (made_to places ss d st ≤ excess_steps d st.nets) × (stuck_to places ss d st ≤ max_units)
  phase_few d t l m f st h =
      let low = some_low ss v d h.size st h.sound in (
        omega (arith, phase_made ss v d t (l, m) f st h places (omega arith)),
        omega (arith, (phase_stuck ss v d t (l, m) f st h low.0 low.1 (omega (arith, low.2, l)) places (omega arith)).1 low.1),
      )

  phases_few : (n t c : ℕ) (h : Hint) → 2 ^ n ≤ most_step → t + suc n * most_excess ≤ settled_room → Stage ss n t h → excess_steps (2 ^ n) (settled ss h).nets ≤ c
      → (made_by n ss h ≤ c + n * per_phase) × (stuck_by n ss h ≤ suc n * max_units)
  unfolding made_by stuck_by
  phases_few zero t c h l m s o =
      let r = phase_few 1 (t + most_excess) (omega arith) (omega arith) (omega arith) (settled ss h) (stage_underway ss v 0 t h s) in
      (omega (arith, r.0, o), omega (arith, r.1))
  phases_few (suc n) t c h l m s o =
      go (phase ss (2 ^ suc n) (settled ss h)) (stage_phased ss v (suc n) t h s l (omega arith)) (phases_few n (t + most_excess) per_phase)
    where
      now : (made_to places ss (2 ^ suc n) (settled ss h) ≤ excess_steps (2 ^ suc n) (settled ss h).nets) × (stuck_to places ss (2 ^ suc n) (settled ss h) ≤ max_units)
      now = phase_few (2 ^ suc n) (t + most_excess) (pow_pos (suc n)) l (omega arith) (settled ss h) (stage_underway ss v (suc n) t h s)

      double : 2 ^ suc n ≡ 2 * 2 ^ n
      double = omega arith

      go : (e : Ended) → Phased ss (2 ^ suc n) (t + most_excess) places e
          → ((h : Hint) → 2 ^ n ≤ most_step → t + most_excess + suc n * most_excess ≤ settled_room → Stage ss n (t + most_excess) h
          → excess_steps (2 ^ n) (settled ss h).nets ≤ per_phase → (made_by n ss h ≤ per_phase + n * per_phase) × (stuck_by n ss h ≤ suc n * max_units))
          → (made_to places ss (2 ^ suc n) (settled ss h) + pick e.full 0 (made_by n ss (as_hint e.state)) ≤ c + suc n * per_phase)
          × (stuck_to places ss (2 ^ suc n) (settled ss h) + pick e.full 0 (stuck_by n ss (as_hint e.state)) ≤ suc (suc n) * max_units)
      go e r rec = by_cases e.full
          (λ f. rw f (omega (arith, now.0, o), omega (arith, now.1)))
          (λ f. rw f (let a = rest f in (omega (arith, now.0, o, a.0), omega (arith, now.1, a.1))))
        where
          rest : e.full ≡ false → (made_by n ss (as_hint e.state) ≤ per_phase + n * per_phase) × (stuck_by n ss (as_hint e.state) ≤ suc n * max_units)
          rest f =
              rec (as_hint e.state) (omega (arith, l, double)) (omega arith) (stage_next ss v n t e (omega arith) r)
              (few_steps (2 ^ n) (t + most_excess) (pow_pos n) e (omega arith) (subst (λ (d : ℕ). Phased ss d (t + most_excess) places e) double r) f)

  -- The first phase.
  first_few : excess_steps (2 ^ halvings) (settled ss no_hint).nets ≤ 357
  first_few = omega (arith, steps_over (2 ^ halvings) (settled ss no_hint).nets, none_over ss v)

-- Of a call.
pub few : (ss : List Stream) → Solvable ss → (st : State) → AtHint ss st → Few ss st
unfolding made stuck
few ss v st s = by_cases (leb (excess_sum st.nets) most_tried)
    (λ e.
    let r = phase_few ss v 1 settled_room (omega arith) (omega arith) (omega arith) st (hint_underway ss v st s (leb-true (excess_sum st.nets) most_tried e)) in
    record {
      improvements = rw e (omega (arith, r.0, steps_over 1 st.nets, leb-true (excess_sum st.nets) most_tried e));
      searches = rw e (omega (arith, r.1));
      hinted = λ o. rw e (omega (arith, r.0, steps_over 1 st.nets, o));
    })
    (λ e.
    let r = phases_few ss v halvings 0 357 no_hint (omega arith) (omega arith) (none_stage ss v) (first_few ss v) in
    record {
      improvements = rw e (omega (arith, r.0));
      searches = rw e (omega (arith, r.1));
      hinted = λ o. absurd (omega (arith, o, leb-false (excess_sum st.nets) most_tried e));
    })

-- So is a count that is the definition's.
pub effort : (ss : List Stream) → Solvable ss → (st : State) → AtHint ss st → (m : ℕ) → m ≡ made ss st → Effort ss st m
effort ss v st s m e = let f = few ss v st s in record { counted = e; few = rw e f.improvements; hinted = λ o. rw e (f.hinted o) }

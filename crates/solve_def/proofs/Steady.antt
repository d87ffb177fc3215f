-- One improvement: it keeps all that holds of a state, and what is over falls by one step; or the search is stuck.
use mathlib.Core.Path.{◌≡◌, refl, sym, ◌∙◌, ap, subst}
use mathlib.Core.Bool.{Bool, true, false}
use mathlib.Core.List.{List, [], ◌∷◌}
use mathlib.Core.Logic.{◌⊎◌, inl, inr}
use lib.IntN.{pos}
use Prim.Native.Nat.{ℕ, zero, suc, ◌+◌, ◌-◌, ◌*◌, ◌/◌, ◌≤◌, ◌<◌}
use native.Mathlib.Nat.{mul-le-mul_left, mul-div-le, div-eq_of_lt, div-eq-sub-div, le-div_iff_mul-le}
use native.Mathlib.Omega.{arith}
use native.Mathlib.Decide.{dec_le}
use borrow.Author.Tests.{eqb-true, eq-eqb, ne_eqb}
use lib.Dec.{eqb}
use lib.ListN.{length, get_or, set, length-set, get_or-eq_default}
use lib.Seq.{get_or-set_other}
use Rattle.num_bytes.specs.Choice.{pick}
use Rattle.num_bytes.proofs.Tests.{by_cases}
use Rattle.plant_def.specs.declared.Stream.{Stream}
use Rattle.plant_def.specs.Limits.{max_units, places, max_streams}
use Rattle.plant_def.specs.Plants.{no_stream}
use Rattle.flow_def.specs.Flows.{stream_at}
use Rattle.num_bytes.proofs.Integers.{up, dn, minus_val}
use Rattle.solve_def.specs.Sizes.{most_flow, net_shift, settled_room}
use Rattle.solve_def.specs.Held.{low_of, AllStepsMet}
use Rattle.solve_def.specs.Search.{target, Grown, sought}
use Rattle.solve_def.specs.SearchNeeds.{SizeWithin, Moderate}
use Rattle.solve_def.specs.Augment.{augmented}
use Rattle.solve_def.specs.declared.State.{State}
use Rattle.solve_def.specs.Model.{Improved, shifted_nets, augmented_on, improved_at, improved_by, excess_sum, excess_steps}
use Rattle.solve_def.specs.SolverNeeds.{Step, Agreed, Sound, Underway}
use Rattle.solve_def.proofs.Amounts.{get_set, net}
use Rattle.solve_def.proofs.Bounds.{weight_none, met_agree}
use Rattle.solve_def.proofs.Augmenting.{reached, reached_new, Augmented, augment_good}
use Rattle.solve_def.proofs.Hunting.{Hunt, hit, stuck, Found, Stuck, hunt}
use Rattle.solve_def.proofs.Streams.{Solvable}
use Rattle.solve_def.proofs.Booking.{net_value}
use Rattle.solve_def.proofs.Tall.{sound_tall, sound_moderate}
use Rattle.solve_def.proofs.Compressions.{Floors, refloored_floors}

-- What is over in sum, and in steps: after a store; and no more than the one is the other.
pub over_set : (es : List ℕ) (i y : ℕ) → i < length es → excess_sum (set es i y) + (get_or es i 0 - net_shift) ≡ excess_sum es + (y - net_shift)
unfolding excess_sum
over_set [] i y l = absurd (omega arith)
over_set (e ∷ es) zero y l = omega arith
over_set (e ∷ es) (suc i) y l = omega (arith, over_set es i y (omega arith))

-- What is over at one place is no more than at all.
pub over_at : (es : List ℕ) (u : ℕ) → get_or es u 0 ≤ net_shift + excess_sum es
unfolding excess_sum
over_at [] u = omega arith
over_at (e ∷ es) zero = omega arith
over_at (e ∷ es) (suc u) = omega (arith, over_at es u)

-- What a store of one net does to the steps that are over.
pub steps_set : (d : ℕ) (es : List ℕ) (i y : ℕ) → i < length es → excess_steps d (set es i y) + (get_or es i 0 - net_shift) / d ≡ excess_steps d es + (y - net_shift) / d
unfolding excess_steps
steps_set d [] i y l = absurd (omega arith)
steps_set d (e ∷ es) zero y l = omega arith
steps_set d (e ∷ es) (suc i) y l = omega (arith, steps_set d es i y (omega arith))

-- So many steps are over.
pub steps_over : (d : ℕ) (es : List ℕ) → d * excess_steps d es ≤ excess_sum es
unfolding excess_steps excess_sum
steps_over d [] = omega arith
steps_over d (e ∷ es) = omega (arith, mul-div-le (e - net_shift) d, steps_over d es)

steps_at : (d : ℕ) (es : List ℕ) (u : ℕ) → u < length es → (get_or es u 0 - net_shift) / d ≤ excess_steps d es
unfolding excess_steps
steps_at d [] u l = absurd (omega arith)
steps_at d (e ∷ es) zero l = omega arith
steps_at d (e ∷ es) (suc u) l = omega (arith, steps_at d es u (omega arith))

-- Where a net has a step, unmetered amounts may grow by it.
pub underway_room : (ss : List Stream) (d t : ℕ) (st : State) → Step d → (h : Underway ss d t st) (s : ℕ) → s < places → net_shift + d ≤ get_or st.nets s 0 → h.size + d ≤ t
underway_room ss d t st step h s l over = omega (arith, h.fits, mul-le-mul_left d one)
  where
    one : 1 ≤ excess_steps d st.nets
    one =
        omega (
          arith,
          steps_at d st.nets s (rw h.sound.netted l),
          (le-div_iff_mul-le {k = d} {x = 1} {y = get_or st.nets s 0 - net_shift} step.0).1 (omega (arith, over)),
        )

-- The nets after d moves from s to v.
module _ (es : List ℕ) (s v d : ℕ) (ls : s < length es) (lv : v < length es) (ne : s ≡ v → ⊥) (floor : net_shift + d ≤ get_or es s 0) (capped : get_or es v 0 < net_shift) where
  fs : List ℕ
  fs = set es s (get_or es s 0 - d)

  fs_v : get_or fs v 0 ≡ get_or es v 0
  unfolding fs
  fs_v = get_or-set_other es s v (get_or es s 0 - d) 0 (λ q. ne (sym q))

  fs_long : length fs ≡ length es
  unfolding fs
  fs_long = length-set es s (get_or es s 0 - d)

  -- As many nets as before.
  pub shifted_long : length (shifted_nets es s v d) ≡ length es
  unfolding fs
  shifted_long = length-set fs v (get_or fs v 0 + d) ∙ fs_long

  -- Each net after a shift.
  pub shifted_at : (u : ℕ) → get_or (shifted_nets es s v d) u 0 + pick (eqb s u) d 0 ≡ get_or es u 0 + pick (eqb v u) d 0
  unfolding fs
  shifted_at u = rw (get_set fs v u (get_or fs v 0 + d) 0 (rw fs_long lv), get_set es s u (get_or es s 0 - d) 0 ls) (by_cases (eqb v u)
      (λ a. let q : v ≡ u = eqb-true v u a in
      let b : eqb s u ≡ false = ne_eqb s u (λ o. ne (o ∙ sym q)) in rw (a, b) (omega (arith, fs_v, ap (λ (k : ℕ). get_or es k 0) q)))
      (λ a. by_cases (eqb s u) (λ b. let q : s ≡ u = eqb-true s u b in rw (a, b) (omega (arith, ap (λ (k : ℕ). get_or es k 0) q))) (λ b. rw (a, b))))

  -- Less is over after it.
  pub shifted_less : 1 ≤ d → excess_sum (shifted_nets es s v d) < excess_sum es
  unfolding fs
  shifted_less l = omega (arith, over_set fs v (get_or fs v 0 + d) (rw fs_long lv), over_set es s (get_or es s 0 - d) ls, fs_v)

  -- Namely one step.
  pub shifted_step : 1 ≤ d → excess_steps d (shifted_nets es s v d) + 1 ≡ excess_steps d es
  unfolding fs
  shifted_step l =
      omega (
        arith,
        steps_set d fs v (get_or fs v 0 + d) (rw fs_long lv),
        steps_set d es s (get_or es s 0 - d) ls,
        none (get_or fs v 0) (omega (arith, fs_v)),
        small (get_or fs v 0 + d) (omega (arith, fs_v)),
        fewer (get_or es s 0) floor,
      )
    where
      none : (e : ℕ) → e < net_shift → (e - net_shift) / d ≡ 0
      none e h = div-eq_of_lt (omega arith)

      small : (e : ℕ) → e < net_shift + d → (e - net_shift) / d ≡ 0
      small e h = div-eq_of_lt (omega arith)

      fewer : (e : ℕ) → net_shift + d ≤ e → (e - net_shift) / d ≡ (e - d - net_shift) / d + 1
      fewer e h =
          let q : e - d - net_shift ≡ e - net_shift - d = omega arith in
          rw q (div-eq-sub-div (omega arith) (omega arith))

  -- No net rises to d or more.
  pub shifted_most : (u : ℕ) → (get_or (shifted_nets es s v d) u 0 ≤ get_or es u 0) ⊎ (get_or (shifted_nets es s v d) u 0 < net_shift + d)
  shifted_most u = by_cases (eqb v u)
      (λ a. let q : v ≡ u = eqb-true v u a in inr (target_low q (rw a at (shifted_at u))))
      (λ a. inl (kept (rw a at (shifted_at u))))
    where
      target_low : v ≡ u → get_or (shifted_nets es s v d) u 0 + pick (eqb s u) d 0 ≡ get_or es u 0 + d → get_or (shifted_nets es s v d) u 0 < net_shift + d
      target_low q h = omega (arith, h, capped, ap (λ (k : ℕ). get_or es k 0) q)

      kept : get_or (shifted_nets es s v d) u 0 + pick (eqb s u) d 0 ≡ get_or es u 0 + 0 → get_or (shifted_nets es s v d) u 0 ≤ get_or es u 0
      kept h = omega (arith, h)

-- A state: its nets by value, potentials that agree by the step condition, and amounts that have room.
module _ (ss : List Stream) (v : Solvable ss) (d b : ℕ) (step : Step d) (st : State) (h : Sound ss d b st) (fits : b ≤ settled_room) where
  -- The nets of a sound state are those of its flow.
  pub nets_val : (u : ℕ) → u < places → up (net ss st.flows u) + net_shift ≡ get_or st.nets u 0 + dn (net ss st.flows u)
  nets_val u l = rw (h.nets u l) (omega (arith, minus_val (pos (get_or st.nets u 0)) (pos net_shift)))

  -- Its amounts are in the room of the solver.
  pub sound_within : (k : ℕ) → k < max_streams → SizeWithin settled_room (get_or st.flows k 0)
  sound_within k l = go (stream_at ss k).metered refl
    where
      free : (stream_at ss k).metered ≡ false → SizeWithin settled_room (get_or st.flows k 0)
      free e = let r = h.sized k l e in (omega (arith, r.0, fits), omega (arith, r.1, fits))

      go : (m : Bool) → (stream_at ss k).metered ≡ m → SizeWithin settled_room (get_or st.flows k 0)
      go true e = elim (dec_le (length ss) k) [
        | yes q ↦ free (ap (λ (s : Stream). s.metered) (get_or-eq_default ss no_stream q))
        | no q ↦ let r = sound_moderate ss v d b st step.1 h k (omega arith) e in (omega (arith, r.0), omega (arith, r.1))
      ]
      go false e = free e

  -- And each has room for a step.
  pub sound_room : (k : ℕ) → k < length ss → (d ≤ get_or st.flows k 0) × (get_or st.flows k 0 + d ≤ most_flow)
  sound_room k l = let r = sound_within k (omega (arith, v.plain.few)) in (omega (arith, r.1, step.1), omega (arith, r.0, step.1))

-- The step condition makes the ends of unmetered streams agree.
pub met_agreed : (ss : List Stream) → Solvable ss → (xs ps : List ℕ) (d : ℕ)
    → ((k : ℕ) → k < length ss → (stream_at ss k).metered ≡ false → (d ≤ get_or xs k 0) × (get_or xs k 0 + d ≤ most_flow))
    → AllStepsMet ss xs ps d → Agreed ss ps
met_agreed ss v xs ps d room h k l e =
    met_agree d _ (get_or xs k 0) _ _ _ _ _ (weight_none (stream_at ss k) e) (omega (arith, free, (room k l e).0))
    (omega (arith, (v.ranged k l).wide free, (room k l e).1)) (h k l)
  where
    free : low_of (stream_at ss k) ≡ 0
    free = (v.ranged k l).free e

-- What an improvement from place s comes to: a better state, or a stuck set.
pub record Better (ss : List Stream) (d b s : ℕ) (st r : State) : Type 0 where
  pub sound : Sound ss d (b + d) r
  pub fewer : excess_steps d r.nets + 1 ≡ excess_steps d st.nets
  pub source : get_or r.nets s 0 + d ≡ get_or st.nets s 0
  pub others : (u : ℕ) → (get_or r.nets u 0 ≤ get_or st.nets u 0) ⊎ (get_or r.nets u 0 < net_shift + d)

-- What an improvement comes to.
pub data Outcome (ss : List Stream) (d b s : ℕ) (st : State) (r : Improved) : Type 0 where
  better : r.done ≡ true → Better ss d b s st r.state → Outcome ss d b s st r
  jammed : r.done ≡ false → r.state ≡ st → Stuck max_units ss st.flows st.nets d s r.visited → Outcome ss d b s st r

module _ (ss : List Stream) (v : Solvable ss) (d b : ℕ) (step : Step d) (st : State) (h : Sound ss d b st) (fits : b + d ≤ settled_room) (s : ℕ) (ls : s < places)
    (over : net_shift + d ≤ get_or st.nets s 0) where
  moderate : Moderate ss st.flows
  moderate = sound_moderate ss v d b st step.1 h

  values : (u : ℕ) → u < places → up (net ss st.flows u) + net_shift ≡ get_or st.nets u 0 + dn (net ss st.flows u)
  values = nets_val ss v d b step st h (omega arith)

  -- The search finds a place with a negative net, or is stuck.
  pub finds : Hunt max_units ss st.flows st.nets d s st.potentials (sought ss st.flows st.nets st.potentials d s)
  finds =
      hunt max_units ss v.plain st.flows st.nets d step.1 s (omega arith) (λ k l. (sound_room ss v d b step st h (omega arith) k l).0) moderate
      st.potentials h.capped h.floor h.met (omega arith)

  augmented_better : (g : Grown) → Found max_units ss st.flows st.nets d s st.potentials g → Better ss d b s st (augmented_on ss st d s g)
  augmented_better g r = record {
    sound = record {
      met = floors.met;
      inside = p.inside h.inside;
      agreed = floors.agreed;
      long = p.long ∙ h.long;
      per_place = floors.per_place;
      netted = shifted_long es s w d lls llw ne over r.negative ∙ h.netted;
      nets = λ u l. net_value (net ss ys u) (get_or (shifted_nets es s w d) u 0) (omega (arith, values u l, p.nets u, shifted_at es s w d lls llw ne over r.negative u));
      floor = floors.floor;
      capped = floors.capped;
      over = omega (arith, h.over, shifted_less es s w d lls llw ne over r.negative step.0);
      sized = λ k l e. (omega (arith, (h.sized k l e).0, p.most k), omega (arith, (h.sized k l e).1, p.least k));
    };
    fewer = shifted_step es s w d lls llw ne over r.negative step.0;
    source = source;
    others = shifted_most es s w d lls llw ne over r.negative;
  }
    where
      es : List ℕ
      es = st.nets

      w : ℕ
      w = target g.tree

      ys : List ℕ
      ys = augmented ss g.tree.via g.tree.ends d g.tree.len (target g.tree) st.flows

      ne : s ≡ w → ⊥
      ne q = omega (arith, r.negative, ap (λ (k : ℕ). get_or st.nets k 0) q)

      lls : s < length es
      lls = rw h.netted ls

      llw : w < length es
      llw = rw h.netted (omega (arith, r.near))

      source : get_or (shifted_nets es s w d) s 0 + d ≡ get_or es s 0
      source =
          let a : eqb s s ≡ true = eq-eqb s s refl in
          let c : eqb w s ≡ false = ne_eqb w s (λ q. ne (sym q)) in
          omega (arith, rw (a, c) at (shifted_at es s w d lls llw ne over r.negative s))

      reach : reached s g.tree.ends g.tree.len w ≡ true
      reach =
          let q : g.tree.len ≡ suc (g.tree.len - 1) = omega (arith, r.some) in
          subst (λ (j : ℕ). reached s g.tree.ends j w ≡ true) (sym q) (reached_new s g.tree.ends (g.tree.len - 1))

      p : Augmented ss st.flows (augmented ss g.tree.via g.tree.ends d g.tree.len w st.flows) g.potentials d w s g.tree.via g.tree.len
      p =
          augment_good ss g.potentials d s g.tree.via g.tree.ends g.tree.len w st.flows (omega (arith, h.long, v.plain.few)) r.grown.met
          r.grown.links reach

      -- Amounts move by d at most: they are moderate still, and unmetered ones have room.
      still : Moderate ss ys
      still k l e =
          let r = sound_tall ss v d b st step.1 h k l e in (omega (arith, r.0, p.most k, step.1), omega (arith, r.1, p.least k, step.1))

      roomy : (k : ℕ) → k < length ss → (stream_at ss k).metered ≡ false → (d ≤ get_or ys k 0) × (get_or ys k 0 + d ≤ most_flow)
      roomy k l e =
          let r = h.sized k (omega (arith, v.plain.few)) e in
          (omega (arith, r.1, p.least k, step.1, fits), omega (arith, r.0, p.most k, step.1, fits))

      floors : Floors ss ys d (augmented_on ss st d s g).potentials
      floors =
          refloored_floors ss v ys g.potentials d step.1 still (r.long ∙ h.per_place) (λ u l. omega (arith, h.capped u l, r.rise u)) p.met
          (met_agreed ss v ys g.potentials d roomy p.met)

  -- Every improvement comes to one of these.
  pub improved_good : Outcome ss d b s st (improved_at ss st d s)
  improved_good = go (sought ss st.flows st.nets st.potentials d s) finds
    where
      go : (g : Grown) → Hunt max_units ss st.flows st.nets d s st.potentials g
          → Outcome ss d b s st (improved_by g.found (pick g.found (augmented_on ss st d s g) st) g.tree.visited)
      go g (hit e f) = rw e (better refl (augmented_better g f))
      go g (stuck e f) = rw e (jammed refl refl f)

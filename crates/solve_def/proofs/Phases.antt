-- Phases: each keeps all that holds of a state, and ends with a full set or with little over at every place.
use mathlib.Core.Path.{◌≡◌, refl, sym, ap}
use mathlib.Core.Bool.{true, false, true≢false}
use mathlib.Core.List.{List}
use mathlib.Core.Logic.{◌⊎◌, inl, inr, ⊎_elim}
use Prim.Native.Nat.{ℕ, zero, suc, ◌+◌, ◌-◌, ◌*◌, ◌/◌, ◌^◌, ◌≤◌, ◌<◌}
use native.Mathlib.Nat.{mul-le-mul_left, mul-le-mul_right, mul-div-le, lt-mul-div-succ}
use native.Mathlib.Omega.{arith}
use native.Mathlib.Decide.{ℕ_discrete}
use lib.ListN.{get_or}
use lib.Pow.{pow_pos}
use Rattle.num_bytes.specs.Choice.{pick}
use Rattle.num_bytes.proofs.Tests.{by_cases, clash, picked}
use Rattle.plant_def.specs.declared.Stream.{Stream}
use Rattle.plant_def.specs.Limits.{places, max_streams}
use Rattle.solve_def.specs.Sizes.{flow_shift, net_shift, most_step, most_excess, settled_room}
use Rattle.solve_def.specs.Full.{overfull}
use Rattle.solve_def.specs.declared.Hint.{Hint}
use Rattle.solve_def.specs.declared.State.{State}
use Rattle.solve_def.specs.declared.Ended.{Ended}
use Rattle.flow_def.specs.Overfull.{unmarked}
use Rattle.solve_def.specs.Model.{Improved, improved_at, from_place, phase_to, phase, phases, settled, as_hint, going, ended_by, excess_sum}
use Rattle.solve_def.specs.SolverNeeds.{Step, Start, Underway}
use Rattle.solve_def.proofs.Streams.{Solvable}
use Rattle.solve_def.proofs.Nearest.{start_more, settled_sound, again_start, again_over}
use Rattle.solve_def.proofs.Fulls.{stuck_small}
use Rattle.solve_def.proofs.Steady.{steps_over, underway_room, nets_val, sound_room, Outcome, better, jammed, improved_good}

-- A net that is small for step d.
abbrev pub Small : ℕ → ℕ → Type 0
Small d e = e ≤ net_shift + max_streams * (d - 1)

-- After improvements from place s: a set that is full, or little over at s; no other place has more over than it had, or than a step.
pub record Left (ss : List Stream) (d t s : ℕ) (st : State) (r : Ended) : Type 0 where
  pub underway : Underway ss d t r.state
  pub found : r.full ≡ true → overfull ss r.marked ≡ true
  pub bare : r.full ≡ false → r.marked ≡ unmarked
  pub small : r.full ≡ false → Small d (get_or r.state.nets s 0)
  pub others : (u : ℕ) → (get_or r.state.nets u 0 ≤ get_or st.nets u 0) ⊎ (get_or r.state.nets u 0 < net_shift + d)

-- After a phase over the first n places.
pub record Phased (ss : List Stream) (d t n : ℕ) (r : Ended) : Type 0 where
  pub underway : Underway ss d t r.state
  pub found : r.full ≡ true → overfull ss r.marked ≡ true
  pub bare : r.full ≡ false → r.marked ≡ unmarked
  pub small : r.full ≡ false → (u : ℕ) → u < n → Small d (get_or r.state.nets u 0)

module _ (ss : List Stream) (v : Solvable ss) (d t : ℕ) (step : Step d) (fits : t ≤ settled_room) where
  same_left : (s : ℕ) (st : State) → Underway ss d t st → Small d (get_or st.nets s 0) → Left ss d t s st (going st)
  same_left s st h l = record { underway = h; found = λ e. absurd (true≢false (sym e)); bare = λ e. refl; small = λ e. l; others = λ u. inl (omega arith) }

  -- Improvements from one place leave less than a step there.
  pub from_left : (k s : ℕ) (st : State) → s < places → Underway ss d t st → (1 ≤ k → net_shift + k * d ≤ get_or st.nets s 0)
      → get_or st.nets s 0 < net_shift + suc k * d → Left ss d t s st (from_place k ss d s st)
  unfolding from_place
  from_left zero s st l h low high = same_left s st h (omega (arith, high))
  from_left (suc k) s st l h low high = go (improved_at ss st d s) (improved_good ss v d h.size step st h.sound room s l over) (from_left k s)
    where
      over : net_shift + d ≤ get_or st.nets s 0
      over = omega (arith, low (omega arith))

      room : h.size + d ≤ settled_room
      room = omega (arith, fits, underway_room ss d t st step h s l over)

      go : (r : Improved) → Outcome ss d h.size s st r
          → ((st : State) → s < places → Underway ss d t st → (1 ≤ k → net_shift + k * d ≤ get_or st.nets s 0) → get_or st.nets s 0 < net_shift + suc k * d
          → Left ss d t s st (from_place k ss d s st))
          → Left ss d t s st (pick r.done (from_place k ss d s r.state) (pick (overfull ss r.visited) (ended_by true st r.visited) (going st)))
      go r (better e b) rec = rw e (record {
        underway = a.underway;
        found = a.found;
        bare = a.bare;
        small = a.small;
        others = λ u. ⊎_elim (λ (x : get_or (from_place k ss d s r.state).state.nets u 0 ≤ get_or r.state.nets u 0).
            ⊎_elim (λ (y : get_or r.state.nets u 0 ≤ get_or st.nets u 0). inl (omega (arith, x, y)))
            (λ (y : get_or r.state.nets u 0 < net_shift + d). inr (omega (arith, x, y))) (b.others u))
            (λ (x : get_or (from_place k ss d s r.state).state.nets u 0 < net_shift + d). inr x) (a.others u);
      })
        where
          next : Underway ss d t r.state
          next = record {
            size = h.size + d;
            sound = b.sound;
            fits = omega (arith, h.fits, ap (λ (n : ℕ). d * n) b.fewer);
          }

          a : Left ss d t s r.state (from_place k ss d s r.state)
          a = rec r.state l next (λ o. omega (arith, low (omega arith), b.source)) (omega (arith, high, b.source))
      go r (jammed e q f) rec = rw e (by_cases (overfull ss r.visited)
          (λ o. rw o (record { underway = h; found = λ z. o; bare = λ z. absurd (true≢false z); small = λ z. absurd (true≢false z); others = λ u. inl (omega arith) }))
          (λ o. rw o (same_left s st h (omega (
            arith,
            stuck_small ss v st.flows st.nets d s r.visited step.0 (omega arith) (sound_room ss v d h.size step st h.sound (omega arith))
                (λ u m. nets_val ss v d h.size step st h.sound (omega arith) u (omega arith)) f o,
            mul-le-mul_right (d - 1) v.plain.few,
          )))))

  -- The first n places of a phase.
  pub phased : (n : ℕ) → n ≤ places → (st : State) → Underway ss d t st → Phased ss d t n (phase_to n ss d st)
  unfolding phase_to
  phased zero l st h = record { underway = h; found = λ e. absurd (true≢false (sym e)); bare = λ e. refl; small = λ e u m. absurd (omega arith) }
  phased (suc n) l st h = go (phase_to n ss d st) (phased n (omega arith) st h)
    where
      go : (e : Ended) → Phased ss d t n e → Phased ss d t (suc n) (pick e.full e (from_place ((get_or e.state.nets n 0 - net_shift) / d) ss d n e.state))
      go e r = picked (Phased ss d t (suc n)) e.full e (from_place k ss d n e.state)
          (λ f. record { underway = r.underway; found = r.found; bare = r.bare; small = λ o. clash e.full f o })
          (λ f. on f (from_left k n e.state (omega arith) r.underway low high))
        where
          k : ℕ
          k = (get_or e.state.nets n 0 - net_shift) / d

          low : 1 ≤ k → net_shift + k * d ≤ get_or e.state.nets n 0
          low o = omega (arith, mul-div-le (get_or e.state.nets n 0 - net_shift) d, some o)
            where
              some : 1 ≤ (get_or e.state.nets n 0 - net_shift) / d → d * 1 ≤ d * ((get_or e.state.nets n 0 - net_shift) / d)
              some o = mul-le-mul_left d o

          high : get_or e.state.nets n 0 < net_shift + suc k * d
          high = omega (arith, lt-mul-div-succ (get_or e.state.nets n 0 - net_shift) {b = d} step.0)

          on : e.full ≡ false → Left ss d t n e.state (from_place k ss d n e.state) → Phased ss d t (suc n) (from_place k ss d n e.state)
          on f a = record {
            underway = a.underway;
            found = a.found;
            bare = a.bare;
            small = λ o u m. elim (ℕ_discrete u n) [
              | yes q ↦ rw q (a.small o)
              | no q ↦ ⊎_elim
                  (λ (x : get_or (from_place k ss d n e.state).state.nets u 0 ≤ get_or e.state.nets u 0). omega (arith, x, r.small f u (omega arith)))
                  (λ (x : get_or (from_place k ss d n e.state).state.nets u 0 < net_shift + d). omega (arith, x)) (a.others u)
            ];
          }

-- All phases: a set that is full, or a state at step 1 with nothing over.
pub record Finished (ss : List Stream) (r : Ended) : Type 0 where
  pub underway : r.full ≡ false → Underway ss 1 settled_room r.state
  pub found : r.full ≡ true → overfull ss r.marked ≡ true
  pub bare : r.full ≡ false → r.marked ≡ unmarked
  pub none : r.full ≡ false → (u : ℕ) → u < places → get_or r.state.nets u 0 ≤ net_shift

-- A wider range of unmetered amounts.
pub underway_more : (ss : List Stream) (d t u : ℕ) (st : State) → t ≤ u → Underway ss d t st → Underway ss d u st
underway_more ss d t u st l h = record { size = h.size; sound = h.sound; fits = omega (arith, h.fits) }

module _ (ss : List Stream) (v : Solvable ss) where
  -- The phase at step 1 finishes the flow.
  pub last_phase : (t : ℕ) (st : State) → t ≤ settled_room → Underway ss 1 t st → Finished ss (phase ss 1 st)
  last_phase t st l h = go (phase ss 1 st) (phased ss v 1 t (omega arith, omega arith) l places (omega arith) st h)
    where
      go : (r : Ended) → Phased ss 1 t places r → Finished ss r
      go r a = record {
        underway = λ e. underway_more ss 1 t settled_room r.state l a.underway;
        found = a.found;
        bare = a.bare;
        none = λ e u m. omega (arith, a.small e u m);
      }

-- Amounts and potentials before the phase at step 2^n, the unmetered amounts of size t at most.
pub record Stage (ss : List Stream) (n t : ℕ) (h : Hint) : Type 0 where
  pub start : Start ss t h
  pub over : excess_sum (settled ss h).nets + 2 * max_streams * 2 ^ n ≤ most_excess

module _ (ss : List Stream) (v : Solvable ss) where
  -- A phase moves unmetered amounts by no more than what may be over.
  pub stage_underway : (n t : ℕ) (h : Hint) → Stage ss n t h → Underway ss (2 ^ n) (t + most_excess) (settled ss h)
  stage_underway n t h s = record {
    size = t;
    sound = settled_sound ss v h t s.start (2 ^ n) (pow_pos n) s.over;
    fits = omega (arith, steps_over (2 ^ n) (settled ss h).nets, s.over);
  }

  -- A phase at step 2^n.
  pub stage_phased : (n t : ℕ) (h : Hint) → Stage ss n t h → 2 ^ n ≤ most_step → t + most_excess ≤ settled_room
      → Phased ss (2 ^ n) (t + most_excess) places (phase ss (2 ^ n) (settled ss h))
  stage_phased n t h s l m = phased ss v (2 ^ n) (t + most_excess) (pow_pos n, l) m places (omega arith) (settled ss h) (stage_underway n t h s)

  -- After it all holds again at half the step.
  pub stage_next : (n t : ℕ) (e : Ended) → t + most_excess ≤ settled_room → Phased ss (2 ^ suc n) (t + most_excess) places e → Stage ss n (t + most_excess) (as_hint e.state)
  stage_next n t e m r = record {
    start = start_more ss r.underway.size (t + most_excess) (as_hint e.state) again (omega (arith, r.underway.fits)) (omega arith);
    over = omega (arith, again_over ss v (2 ^ suc n) r.underway.size e.state r.underway.sound small, r.underway.sound.over);
  }
    where
      small : r.underway.size ≤ flow_shift
      small = omega (arith, r.underway.fits)

      again : Start ss r.underway.size (as_hint e.state)
      again = again_start ss v (2 ^ suc n) r.underway.size e.state r.underway.sound small

  -- All phases, down to step 1.
  pub phases_good : (n t : ℕ) (h : Hint) → 2 ^ n ≤ most_step → t + suc n * most_excess ≤ settled_room → Stage ss n t h → Finished ss (phases n ss h)
  unfolding phases
  phases_good zero t h l m s = last_phase ss v (t + most_excess) (settled ss h) (omega arith) (stage_underway 0 t h s)
  phases_good (suc n) t h l m s = go (phase ss (2 ^ suc n) (settled ss h)) (stage_phased (suc n) t h s l (omega arith)) (phases_good n (t + most_excess))
    where
      go : (e : Ended) → Phased ss (2 ^ suc n) (t + most_excess) places e
          → ((h : Hint) → 2 ^ n ≤ most_step → t + most_excess + suc n * most_excess ≤ settled_room → Stage ss n (t + most_excess) h → Finished ss (phases n ss h))
          → Finished ss (pick e.full e (phases n ss (as_hint e.state)))
      go e r rec = picked (Finished ss) e.full e (phases n ss (as_hint e.state))
          (λ f. record { underway = λ o. clash e.full f o; found = r.found; bare = r.bare; none = λ o. clash e.full f o })
          (λ f. rec (as_hint e.state) (omega arith) (omega arith) (stage_next n t e (omega arith) r))

-- Improvements are steps of what is over: a phase makes no more than there are at its start.
use mathlib.Core.Path.{◌≡◌, refl, ap}
use mathlib.Core.Bool.{true}
use mathlib.Core.List.{List}
use mathlib.Core.Logic.{◌⊎◌, inl, inr}
use Prim.Native.Nat.{ℕ, zero, suc, ◌+◌, ◌-◌, ◌*◌, ◌/◌, ◌≤◌, ◌<◌}
use native.Mathlib.Nat.{div-eq_of_lt}
use native.Mathlib.Omega.{arith}
use native.Mathlib.Decide.{ℕ_discrete}
use lib.ListN.{get_or}
use Rattle.num_bytes.specs.Choice.{pick}
use Rattle.num_bytes.proofs.Tests.{by_cases}
use Rattle.plant_def.specs.declared.Stream.{Stream}
use Rattle.plant_def.specs.Limits.{places}
use Rattle.solve_def.specs.Sizes.{net_shift, settled_room}
use Rattle.solve_def.specs.declared.State.{State}
use Rattle.solve_def.specs.declared.Ended.{Ended}
use Rattle.solve_def.specs.Full.{overfull}
use Rattle.solve_def.specs.Model.{Improved, improved_at, from_place, phase_to, going, ended_by, excess_steps}
use Rattle.solve_def.specs.SolverNeeds.{Step, Underway}
use Rattle.solve_def.proofs.Streams.{Solvable}
use Rattle.solve_def.proofs.Steady.{underway_room, Outcome, better, jammed, improved_good}
use Rattle.solve_def.proofs.Phases.{Left, from_left, Phased, phased, underway_more}
use Rattle.solve_def.proofs.PhaseTurns.{Running, running_start}
use Rattle.solve_def.specs.Made.{made_from, stuck_from, made_to, stuck_to}

module _ (ss : List Stream) (v : Solvable ss) (d t : ℕ) (step : Step d) (fits : t ≤ settled_room) where
  -- From a place: each takes one step away.
  from_made : (k s : ℕ) (st : State) → s < places → Underway ss d t st → (1 ≤ k → net_shift + k * d ≤ get_or st.nets s 0)
      → made_from k ss d s st + excess_steps d (from_place k ss d s st).state.nets ≡ excess_steps d st.nets
  unfolding made_from from_place
  from_made zero s st l h low = omega arith
  from_made (suc k) s st l h low = go (improved_at ss st d s) (improved_good ss v d h.size step st h.sound room s l over) (from_made k s)
    where
      over : net_shift + d ≤ get_or st.nets s 0
      over = omega (arith, low (omega arith))

      room : h.size + d ≤ settled_room
      room = omega (arith, fits, underway_room ss d t st step h s l over)

      go : (r : Improved) → Outcome ss d h.size s st r
          → ((st : State) → s < places → Underway ss d t st → (1 ≤ k → net_shift + k * d ≤ get_or st.nets s 0)
          → made_from k ss d s st + excess_steps d (from_place k ss d s st).state.nets ≡ excess_steps d st.nets)
          → pick r.done (suc (made_from k ss d s r.state)) 0
          + excess_steps d (pick r.done (from_place k ss d s r.state) (pick (overfull ss r.visited) (ended_by true st r.visited) (going st))).state.nets
          ≡ excess_steps d st.nets
      go r (better e b) rec =
          rw e (omega (arith, b.fewer, rec r.state l next (λ o. omega (arith, low (omega arith), b.source))))
        where
          next : Underway ss d t r.state
          next = record { size = h.size + d; sound = b.sound; fits = omega (arith, h.fits, ap (λ (n : ℕ). d * n) b.fewer) }
      go r (jammed e q f) rec = rw e (by_cases (overfull ss r.visited) (λ o. rw o (omega arith)) (λ o. rw o (omega arith)))

  -- At most one of them is stuck; none where the net has no step.
  from_stuck : (k s : ℕ) (st : State) → stuck_from k ss d s st ≤ 1
  unfolding stuck_from
  from_stuck zero s st = omega arith
  from_stuck (suc k) s st = go (improved_at ss st d s) (from_stuck k s)
    where
      go : (r : Improved) → ((st : State) → stuck_from k ss d s st ≤ 1) → pick r.done (stuck_from k ss d s r.state) 1 ≤ 1
      go r rec = by_cases r.done (λ e. rw e (rec r.state)) (λ e. rw e (omega arith))

  stuck_none : (s : ℕ) (st : State) → stuck_from 0 ss d s st ≡ 0
  unfolding stuck_from
  stuck_none s st = refl

  module _ (st : State) (h : Underway ss d t st) where
    at : (n : ℕ) → n ≤ places → Phased ss d t n (phase_to n ss d st)
    at n l = phased ss v d t step fits n l st h

    -- What is made and the steps still over are the steps over at the start.
    pub phase_made : (n : ℕ) → n ≤ places → made_to n ss d st + excess_steps d (phase_to n ss d st).state.nets ≡ excess_steps d st.nets
    unfolding made_to phase_to
    phase_made zero l = omega arith
    phase_made (suc n) l = go (phase_to n ss d st) (at n (omega arith)) (phase_made n (omega arith))
      where
        go : (e : Ended) → Phased ss d t n e → made_to n ss d st + excess_steps d e.state.nets ≡ excess_steps d st.nets
            → made_to n ss d st + pick e.full 0 (made_from ((get_or e.state.nets n 0 - net_shift) / d) ss d n e.state)
            + excess_steps d (pick e.full e (from_place ((get_or e.state.nets n 0 - net_shift) / d) ss d n e.state)).state.nets
            ≡ excess_steps d st.nets
        go e r q = by_cases e.full
            (λ f. rw f (omega (arith, q)))
            (λ f. rw f (omega (
              arith,
              q,
              from_made ((get_or e.state.nets n 0 - net_shift) / d) n e.state (omega arith) r.underway
                  (running_start ss d n e.state step (underway_more ss d t settled_room e.state fits r.underway)).enough,
            )))

    -- Where a place has no step at first, it never has one, and none of its searches is stuck.
    module _ (u : ℕ) (lu : u < places) (none : get_or st.nets u 0 < net_shift + d) where
      phase_low : (n : ℕ) → n ≤ places → get_or (phase_to n ss d st).state.nets u 0 < net_shift + d
      unfolding phase_to
      phase_low zero l = none
      phase_low (suc n) l = go (phase_to n ss d st) (at n (omega arith)) (phase_low n (omega arith))
        where
          go : (e : Ended) → Phased ss d t n e → get_or e.state.nets u 0 < net_shift + d
              → get_or (pick e.full e (from_place ((get_or e.state.nets n 0 - net_shift) / d) ss d n e.state)).state.nets u 0 < net_shift + d
          go e r q = by_cases e.full (λ f. rw f q) (λ f. rw f (on (a.others u)))
            where
              k : ℕ
              k = (get_or e.state.nets n 0 - net_shift) / d

              b : Running ss d n k e.state
              b = running_start ss d n e.state step (underway_more ss d t settled_room e.state fits r.underway)

              a : Left ss d t n e.state (from_place k ss d n e.state)
              a = from_left ss v d t step fits k n e.state (omega arith) r.underway b.enough b.most

              on : (get_or (from_place k ss d n e.state).state.nets u 0 ≤ get_or e.state.nets u 0) ⊎ (get_or (from_place k ss d n e.state).state.nets u 0 < net_shift + d)
                  → get_or (from_place k ss d n e.state).state.nets u 0 < net_shift + d
              on (inl x) = omega (arith, x, q)
              on (inr x) = x

      -- At most one search from each place is stuck, and none from place u, where less than a step is over.
      pub phase_stuck : (n : ℕ) → n ≤ places → (stuck_to n ss d st ≤ n) × (u < n → stuck_to n ss d st + 1 ≤ n)
      unfolding stuck_to
      phase_stuck zero l = (omega arith, λ o. absurd (omega arith))
      phase_stuck (suc n) l = go (phase_to n ss d st) (phase_low n (omega arith)) (phase_stuck n (omega arith))
        where
          go : (e : Ended) → get_or e.state.nets u 0 < net_shift + d → (stuck_to n ss d st ≤ n) × (u < n → stuck_to n ss d st + 1 ≤ n)
              → (stuck_to n ss d st + pick e.full 0 (stuck_from ((get_or e.state.nets n 0 - net_shift) / d) ss d n e.state) ≤ suc n)
              × (u < suc n → stuck_to n ss d st + pick e.full 0 (stuck_from ((get_or e.state.nets n 0 - net_shift) / d) ss d n e.state) + 1 ≤ suc n)
          go e q r = (omega (arith, r.0, one), λ o. elim (ℕ_discrete u n) [ yes z ↦ omega (arith, r.0, here z) | no z ↦ omega (arith, r.1 (omega arith), one) ])
            where
              one : pick e.full 0 (stuck_from ((get_or e.state.nets n 0 - net_shift) / d) ss d n e.state) ≤ 1
              one = by_cases e.full (λ f. rw f (omega arith)) (λ f. rw f (from_stuck ((get_or e.state.nets n 0 - net_shift) / d) n e.state))

              still : (n : ℕ) → get_or e.state.nets n 0 < net_shift + d → stuck_from ((get_or e.state.nets n 0 - net_shift) / d) ss d n e.state ≡ 0
              still n h = let w : (get_or e.state.nets n 0 - net_shift) / d ≡ 0 = div-eq_of_lt (omega arith) in rw w (stuck_none n e.state)

              here : u ≡ n → pick e.full 0 (stuck_from ((get_or e.state.nets n 0 - net_shift) / d) ss d n e.state) ≡ 0
              here z = by_cases e.full (λ f. rw f) (λ f. rw f (still n (rw z at q)))

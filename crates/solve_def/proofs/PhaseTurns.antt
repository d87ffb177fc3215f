-- One turn of each loop of the phases.
use mathlib.Core.Path.{◌≡◌, refl, sym, ◌∙◌, ap, ap₂, subst}
use mathlib.Core.Bool.{Bool, true, false}
use mathlib.Core.List.{List}
use Prim.Native.Nat.{ℕ, zero, suc, ◌+◌, ◌-◌, ◌*◌, ◌/◌, ◌^◌, ◌≤◌, ◌<◌}
use native.Mathlib.Nat.{mul-div-le, lt-mul-div-succ, mul-le-mul_left, mul-div_cancel_left}
use native.Mathlib.Numerals.{add-one}
use native.Mathlib.Omega.{arith}
use native.Mathlib.Decide.{ℕ_discrete}
use lib.ListN.{get_or}
use lib.Pow.{pow_pos}
use Rattle.num_bytes.specs.Choice.{pick}
use Rattle.num_bytes.proofs.Tests.{clash}
use Rattle.plant_def.specs.declared.Stream.{Stream}
use Rattle.plant_def.specs.Limits.{places}
use Rattle.solve_def.specs.Sizes.{net_shift, most_step, most_excess, halvings, settled_room}
use Rattle.solve_def.specs.Full.{overfull}
use Rattle.solve_def.specs.declared.Hint.{Hint}
use Rattle.solve_def.specs.declared.State.{State}
use Rattle.solve_def.specs.declared.Ended.{Ended}
use Rattle.flow_def.specs.Overfull.{unmarked}
use Rattle.solve_def.specs.Model.{Improved, improved_by, improved_at, from_place, phase_to, phase, phases, settled, no_hint, as_hint, going, ended_by}
use Rattle.solve_def.specs.SolverNeeds.{Step, Ready, Underway}
use Rattle.solve_def.proofs.Streams.{Solvable}
use Rattle.solve_def.proofs.Steady.{underway_room, Outcome, better, jammed, improved_good}
use Rattle.solve_def.proofs.Phases.{Left, from_left, Phased, phased, Stage, underway_more, stage_underway, stage_phased, stage_next}
use Rattle.solve_def.proofs.Ending.{none_stage}

-- Improvements from one place: `left` of them, at most, are still to be made.
pub record Running (ss : List Stream) (d s left : ℕ) (st : State) : Type 0 where
  pub underway : Underway ss d settled_room st
  pub enough : 1 ≤ left → net_shift + left * d ≤ get_or st.nets s 0
  pub most : get_or st.nets s 0 < net_shift + suc left * d

-- Before the first improvement from a place.
pub running_start : (ss : List Stream) (d s : ℕ) (st : State) → Step d → Underway ss d settled_room st → Running ss d s ((get_or st.nets s 0 - net_shift) / d) st
running_start ss d s st step h = record {
  underway = h;
  enough = λ o. omega (arith, mul-div-le (get_or st.nets s 0 - net_shift) d, mul-le-mul_left d o, step.0);
  most = omega (arith, lt-mul-div-succ (get_or st.nets s 0 - net_shift) {b = d} step.0);
}

-- With none left to make.
pub from_none : (ss : List Stream) (d s : ℕ) (st : State) → going st ≡ from_place 0 ss d s st
unfolding from_place
from_none ss d s st = refl

-- One attempt, by what it comes to.
module _ (ss : List Stream) (d s left : ℕ) (st : State) (found : Bool) (next : State) (visited : List Bool) (e : improved_by found next visited ≡ improved_at ss st d s) (some : 0 < left) where
  turn : (k : ℕ) → left ≡ suc k → from_place left ss d s st ≡ pick found (from_place k ss d s next) (pick (overfull ss visited) (ended_by true st visited) (going st))
  unfolding from_place
  turn k q =
      rw q
      (ap (λ (r : Improved). pick r.done (from_place k ss d s r.state) (pick (overfull ss r.visited) (ended_by true st r.visited) (going st))) (sym e))

  less : left ≡ suc (left - 1)
  less = omega arith

  -- One is made.
  pub from_next : found ≡ true → from_place (left - 1) ss d s next ≡ from_place left ss d s st
  from_next f = sym (turn (left - 1) less ∙ rw f)

  -- None can be made.
  pub from_stuck : found ≡ false → pick (overfull ss visited) (ended_by true st visited) (going st) ≡ from_place left ss d s st
  from_stuck f = sym (turn (left - 1) less ∙ rw f)

  module _ (v : Solvable ss) (step : Step d) (l : s < places) (h : Running ss d s left st) where
    over : net_shift + d ≤ get_or st.nets s 0
    over = omega (arith, h.enough (omega arith), mul-le-mul_left d some)

    good : Outcome ss d h.underway.size s st (improved_by found next visited)
    good = rw e (improved_good ss v d h.underway.size step st h.underway.sound (underway_room ss d settled_room st step h.underway s l over) s l over)

    -- After one is made.
    pub running_next : found ≡ true → Running ss d s (left - 1) next
    running_next f = go good
      where
        go : Outcome ss d h.underway.size s st (improved_by found next visited) → Running ss d s (left - 1) next
        go (jammed q a b) = clash found f q
        go (better q b) = record {
          underway = record { size = h.underway.size + d; sound = b.sound; fits = omega (arith, h.underway.fits, ap (λ (n : ℕ). d * n) b.fewer) };
          enough = λ o. omega (arith, h.enough (omega arith), b.source, fewer);
          most = omega (arith, h.most, b.source, fewer);
        }
          where
            fewer : left * d ≡ (left - 1) * d + d
            fewer = ap (λ (n : ℕ). n * d) less ∙ omega arith

    -- Where none can be made, the state stays.
    pub stuck_same : found ≡ false → next ≡ st
    stuck_same f = go good
      where
        go : Outcome ss d h.underway.size s st (improved_by found next visited) → next ≡ st
        go (jammed q a b) = a
        go (better q b) = clash found q f

-- A net has a step where one more improvement is to be made.
pub running_over : (ss : List Stream) (d s left : ℕ) (st : State) → 0 < left → Running ss d s left st → net_shift + d ≤ get_or st.nets s 0
running_over ss d s left st l h = omega (arith, h.enough (omega arith), mul-le-mul_left d l)

-- The places one after the other.
pub phase_none : (ss : List Stream) (d : ℕ) (st : State) → phase_to 0 ss d st ≡ going st
unfolding phase_to
phase_none ss d st = refl

-- A phase that is full stays so.
pub phase_stays : (ss : List Stream) (d : ℕ) (st : State) (m k : ℕ) → m ≤ k → (phase_to m ss d st).full ≡ true → phase_to k ss d st ≡ phase_to m ss d st
unfolding phase_to
phase_stays ss d st m zero o t = let q : m ≡ 0 = omega arith in rw q
phase_stays ss d st m (suc k) o t = elim (ℕ_discrete m (suc k)) [
  | yes q ↦ rw q
  | no q ↦ let r = phase_stays ss d st m k (omega arith) t in
      ap (λ (b : Bool). pick b (phase_to k ss d st) (from_place ((get_or (phase_to k ss d st).state.nets k 0 - net_shift) / d) ss d k (phase_to k ss d st).state))
      (ap (λ (x : Ended). x.full) r ∙ t)
      ∙ r
]

-- Phases by their first.
phases_last : (ss : List Stream) (h : Hint) → phases 0 ss h ≡ phase ss 1 (settled ss h)
unfolding phases
phases_last ss h = refl

module _ (n : ℕ) (ss : List Stream) (h : Hint) (e : Ended) (q : e ≡ phase ss (2 ^ suc n) (settled ss h)) where
  phases_more : e.full ≡ false → phases (suc n) ss h ≡ phases n ss (as_hint e.state)
  unfolding phases
  phases_more f = rw (← q, f)

  phases_stop : e.full ≡ true → e ≡ phases (suc n) ss h
  unfolding phases
  phases_stop f = sym (rw (← q) (ap (λ (b : Bool). pick b e (phases n ss (as_hint e.state))) f))

-- A step that is a power of two, halved.
pub half : (n : ℕ) → 2 ^ suc n / 2 ≡ 2 ^ n
half n = let q : 2 ^ suc n ≡ 2 * 2 ^ n = omega arith in rw q (mul-div_cancel_left (2 ^ n) (omega arith))

double : (n : ℕ) → 2 ^ n ≤ 2 ^ suc n
double n = omega arith

module _ (ss : List Stream) (v : Solvable ss) (d : ℕ) (step : Step d) (st : State) (h : Underway ss d settled_room st) (n : ℕ) (l : n < places) (now : State)
    (e : phase_to n ss d st ≡ going now) where
  -- What holds in a phase after n places.
  pub phase_underway : Underway ss d settled_room now
  phase_underway = go (phase_to n ss d st) (phased ss v d settled_room step (omega arith) n (omega arith) st h) e
    where
      go : (r : Ended) → Phased ss d settled_room n r → r ≡ going now → Underway ss d settled_room now
      go r p q = subst (λ (x : Ended). Underway ss d settled_room x.state) q p.underway

  module _ (full : Bool) (next : State) (marked : List Bool) (q : ended_by full next marked ≡ from_place ((get_or now.nets n 0 - net_shift) / d) ss d n now) where
    after : phase_to (n + 1) ss d st ≡ ended_by full next marked
    unfolding phase_to
    after = rw (add-one, e) (sym q)

    -- One place more.
    pub phase_next : full ≡ false → phase_to (n + 1) ss d st ≡ going next
    phase_next f = after ∙ ap₂ (λ (b : Bool) (ms : List Bool). ended_by b next ms) f bare
      where
        k : ℕ
        k = (get_or now.nets n 0 - net_shift) / d

        left : Left ss d settled_room n now (from_place k ss d n now)
        left =
            let r = running_start ss d n now step phase_underway in
            from_left ss v d settled_room step (omega arith) k n now l phase_underway r.enough r.most

        bare : marked ≡ unmarked
        bare = go (from_place k ss d n now) left q
          where
            go : (r : Ended) → Left ss d settled_room n now r → ended_by full next marked ≡ r → marked ≡ unmarked
            go r a z = ap (λ (x : Ended). x.marked) z ∙ a.bare (ap (λ (x : Ended). x.full) (sym z) ∙ f)

    -- A set is full.
    pub phase_full : full ≡ true → ended_by full next marked ≡ phase ss d st
    phase_full f = sym after ∙ sym (phase_stays ss d st (n + 1) places (omega arith) (ap (λ (x : Ended). x.full) after ∙ f))

-- All places are done.
pub phase_end : (ss : List Stream) (d n : ℕ) (st now : State) → n ≡ places → phase_to n ss d st ≡ going now → going now ≡ phase ss d st
phase_end ss d n st now e q = sym q ∙ ap (λ (k : ℕ). phase_to k ss d st) e

-- The phases one after the other: what is left of them comes to what all come to.
pub record Staged (ss : List Stream) (step : ℕ) (h : Hint) : Type 0 where
  pub n : ℕ
  pub size : ℕ
  pub is : step ≡ 2 ^ n
  pub small : step ≤ most_step
  pub fits : size + suc n * most_excess ≤ settled_room
  pub stage : Stage ss n size h
  pub rest : phases n ss h ≡ phases halvings ss no_hint

module _ (ss : List Stream) (v : Solvable ss) where
  -- Before the first phase.
  pub staged_start : Staged ss most_step no_hint
  staged_start = record { n = halvings; size = 0; is = refl; small = omega arith; fits = omega arith; stage = none_stage ss v; rest = refl }

  module _ (step : ℕ) (h : Hint) (s : Staged ss step h) where
    -- The step of a phase is one.
    pub staged_step : Step step
    staged_step = (rw s.is (pow_pos s.n), s.small)

    -- Its hint can be settled at.
    pub staged_ready : Ready ss h
    staged_ready = record { size = s.size; start = s.stage.start }

    -- And the state settled there is underway.
    pub staged_underway : Underway ss step settled_room (settled ss h)
    staged_underway =
        subst (λ (d : ℕ). Underway ss d settled_room (settled ss h)) (sym s.is)
        (underway_more ss (2 ^ s.n) (s.size + most_excess) settled_room (settled ss h) (omega (arith, s.fits)) (stage_underway ss v s.n s.size h s.stage))

    module _ (e : Ended) (q : e ≡ phase ss step (settled ss h)) (more : 1 < step) where
      -- One phase more is done.
      pub staged_next : e.full ≡ false → Staged ss (step / 2) (as_hint e.state)
      staged_next f = go s.n s.is s.fits s.stage s.rest
        where
          halved : (n : ℕ) → step ≡ 2 ^ suc n → step / 2 ≡ 2 ^ n
          halved n i = rw i (half n)

          go : (n : ℕ) → step ≡ 2 ^ n → s.size + suc n * most_excess ≤ settled_room → Stage ss n s.size h → phases n ss h ≡ phases halvings ss no_hint
              → Staged ss (step / 2) (as_hint e.state)
          go zero i m g r = absurd (omega (arith, more, i))
          go (suc n) i m g r = record {
            n = n;
            size = s.size + most_excess;
            is = halved n i;
            small = omega (arith, s.small, halved n i, double n, i);
            fits = omega arith;
            stage = stage_next ss v n s.size e (omega arith) (rw (q, i) (stage_phased ss v (suc n) s.size h g (rw (← i) s.small) (omega arith)));
            rest = sym (phases_more n ss h e (rw (← i) q) f) ∙ r;
          }

      -- A set is full in a phase.
      pub staged_full : e.full ≡ true → e ≡ phases halvings ss no_hint
      staged_full f = go s.n s.is s.rest
        where
          go : (n : ℕ) → step ≡ 2 ^ n → phases n ss h ≡ phases halvings ss no_hint → e ≡ phases halvings ss no_hint
          go zero i r = absurd (omega (arith, more, i))
          go (suc n) i r = phases_stop n ss h e (rw (← i) q) f ∙ r

    -- The last.
    pub staged_last : step ≤ 1 → (step ≡ 1) × (phase ss 1 (settled ss h) ≡ phases halvings ss no_hint)
    staged_last l = go s.n s.is s.rest
      where
        go : (n : ℕ) → step ≡ 2 ^ n → phases n ss h ≡ phases halvings ss no_hint → (step ≡ 1) × (phase ss 1 (settled ss h) ≡ phases halvings ss no_hint)
        go zero i r = (i, sym (phases_last ss h) ∙ r)
        go (suc n) i r = absurd (omega (arith, l, i, pow_pos n))

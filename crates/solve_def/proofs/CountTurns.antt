-- One turn of each loop of the phases, as it counts: what has been made, and what is still to be made, are all that the definition counts.
use mathlib.Core.Path.{◌≡◌, refl, sym, ◌∙◌, ap}
use mathlib.Core.Bool.{Bool, true, false}
use mathlib.Core.List.{List}
use Prim.Native.Nat.{ℕ, zero, suc, ◌+◌, ◌-◌, ◌*◌, ◌/◌, ◌^◌, ◌≤◌, ◌<◌}
use native.Mathlib.Nat.{mul-le-mul_right}
use native.Mathlib.Numerals.{add-one}
use native.Mathlib.Omega.{arith}
use native.Mathlib.Decide.{ℕ_discrete}
use borrow.Author.Tests.{le-leb, lt-leb}
use lib.ListN.{get_or}
use lib.Pow.{pow_pos}
use Rattle.num_bytes.specs.Choice.{pick}
use Rattle.plant_def.specs.declared.Stream.{Stream}
use Rattle.plant_def.specs.Limits.{places}
use Rattle.solve_def.specs.Sizes.{net_shift, most_step, most_excess, most_tried, halvings, settled_room}
use Rattle.solve_def.specs.declared.Hint.{Hint}
use Rattle.solve_def.specs.declared.State.{State}
use Rattle.solve_def.specs.declared.Ended.{Ended}
use Rattle.solve_def.specs.Model.{Improved, improved_by, improved_at, from_place, phase_to, phase, settled, no_hint, as_hint, going, ended_by, excess_sum, excess_steps}
use Rattle.solve_def.specs.SolverNeeds.{Step, Underway}
use Rattle.solve_def.specs.Made.{made_from, made_to, made_by, made}
use Rattle.solve_def.proofs.Streams.{Solvable}
use Rattle.solve_def.proofs.Steady.{steps_over}
use Rattle.solve_def.proofs.PhaseTurns.{half, phase_stays}
use Rattle.solve_def.proofs.Paces.{phase_made}

-- From a place none is made of no attempt.
pub made_none : (ss : List Stream) (d s : ℕ) (st : State) → made_from 0 ss d s st ≡ 0
unfolding made_from
made_none ss d s st = refl

-- One attempt, by what it comes to.
module _ (ss : List Stream) (d s left : ℕ) (st : State) (found : Bool) (next : State) (visited : List Bool)
    (e : improved_by found next visited ≡ improved_at ss st d s) (some : 0 < left) where
  turn : (k : ℕ) → left ≡ suc k → made_from left ss d s st ≡ pick found (suc (made_from k ss d s next)) 0
  unfolding made_from
  turn k q = rw q (ap (λ (r : Improved). pick r.done (suc (made_from k ss d s r.state)) 0) (sym e))

  less : left ≡ suc (left - 1)
  less = omega arith

  -- It succeeds, and is one more.
  pub made_next : found ≡ true → suc (made_from (left - 1) ss d s next) ≡ made_from left ss d s st
  made_next f = sym (turn (left - 1) less ∙ rw f)

  -- It is stuck, and the last.
  pub made_stuck : found ≡ false → made_from left ss d s st ≡ 0
  made_stuck f = turn (left - 1) less ∙ rw f

-- In a phase none is made from no place.
pub phase_made_none : (ss : List Stream) (d : ℕ) (st : State) → made_to 0 ss d st ≡ 0
unfolding made_to
phase_made_none ss d st = refl

-- One place more.
pub phase_made_next : (ss : List Stream) (d n : ℕ) (st now : State) → phase_to n ss d st ≡ going now
    → made_to (n + 1) ss d st ≡ made_to n ss d st + made_from ((get_or now.nets n 0 - net_shift) / d) ss d n now
unfolding made_to
phase_made_next ss d n st now e = rw (add-one, e)

-- A phase that is full makes no more.
full_same : (ss : List Stream) (d m k : ℕ) (st : State) → m ≤ k → (phase_to m ss d st).full ≡ true → made_to k ss d st ≡ made_to m ss d st
unfolding made_to
full_same ss d m zero st o t = let q : m ≡ 0 = omega arith in rw q
full_same ss d m (suc k) st o t = elim (ℕ_discrete m (suc k)) [
  | yes q ↦ rw q
  | no q ↦ omega (arith, idle (phase_to k ss d st) (ap (λ (x : Ended). x.full) (phase_stays ss d st m k (omega arith) t) ∙ t), full_same ss d m k st (omega arith) t)
]
  where
    idle : (e : Ended) → e.full ≡ true → pick {A = ℕ} e.full 0 (made_from ((get_or e.state.nets k 0 - net_shift) / d) ss d k e.state) ≡ 0
    idle e f = rw f

module _ (ss : List Stream) (d n : ℕ) (st now : State) (l : n < places) (e : phase_to n ss d st ≡ going now) (full : Bool) (next : State) (marked : List Bool)
    (q : ended_by full next marked ≡ from_place ((get_or now.nets n 0 - net_shift) / d) ss d n now) (f : full ≡ true) where
  after_full : (phase_to (n + 1) ss d st).full ≡ true
  unfolding phase_to
  after_full = rw (add-one, e) (ap (λ (x : Ended). x.full) (sym q) ∙ f)

  -- After a place at which a set is full, none is made.
  pub phase_made_last : made_to places ss d st ≡ made_to (n + 1) ss d st
  phase_made_last = full_same ss d (n + 1) places st (omega arith) after_full

-- A phase makes no more than may be over.
module _ (ss : List Stream) (v : Solvable ss) (d : ℕ) (step : Step d) (st : State) (h : Underway ss d settled_room st) where
  -- From the first n places a phase makes no more improvements than may be over.
  pub phase_made_room : (n : ℕ) → n ≤ places → made_to n ss d st ≤ most_excess
  phase_made_room n l =
      omega (
        arith,
        phase_made ss v d settled_room step (omega arith) st h n l,
        mul-le-mul_right (excess_steps d st.nets) step.0,
        steps_over d st.nets,
        h.sound.over,
      )

-- The phases one after the other: so many have been made before the phase at this step, and each phase makes most_excess at most.
pub record Tallied (ss : List Stream) (step : ℕ) (h : Hint) (count : ℕ) : Type 0 where
  pub n : ℕ
  pub is : step ≡ 2 ^ n
  pub fits : count + suc n * most_excess ≤ suc halvings * most_excess
  pub rest : count + made_by n ss h ≡ made_by halvings ss no_hint

-- Before the first phase none has been made.
pub tallied_start : (ss : List Stream) → Tallied ss most_step no_hint 0
tallied_start ss = record { n = halvings; is = refl; fits = omega arith; rest = omega arith }

by_last : (ss : List Stream) (h : Hint) → made_by 0 ss h ≡ made_to places ss 1 (settled ss h)
unfolding made_by
by_last ss h = refl

module _ (n : ℕ) (ss : List Stream) (h : Hint) (e : Ended) (q : e ≡ phase ss (2 ^ suc n) (settled ss h)) where
  by_more : e.full ≡ false → made_by (suc n) ss h ≡ made_to places ss (2 ^ suc n) (settled ss h) + made_by n ss (as_hint e.state)
  unfolding made_by
  by_more f = rw (← q, f)

  by_stop : e.full ≡ true → made_by (suc n) ss h ≡ made_to places ss (2 ^ suc n) (settled ss h)
  unfolding made_by
  by_stop f = rw (← q, f) (omega arith)

module _ (ss : List Stream) (step : ℕ) (h : Hint) (count : ℕ) (t : Tallied ss step h count) where
  -- So much fits into the count.
  pub tallied_room : count ≤ settled_room
  tallied_room = omega (arith, t.fits)

  module _ (e : Ended) (q : e ≡ phase ss step (settled ss h)) (more : 1 < step) (m : ℕ) (c : m ≡ count + made_to places ss step (settled ss h))
      (room : made_to places ss step (settled ss h) ≤ most_excess) where
    -- One phase more is counted.
    pub tallied_next : e.full ≡ false → Tallied ss (step / 2) (as_hint e.state) m
    tallied_next f = go t.n t.is t.fits t.rest
      where
        go : (n : ℕ) → step ≡ 2 ^ n → count + suc n * most_excess ≤ suc halvings * most_excess → count + made_by n ss h ≡ made_by halvings ss no_hint
            → Tallied ss (step / 2) (as_hint e.state) m
        go zero i l r = absurd (omega (arith, more, i))
        go (suc n) i l r = record {
          n = n;
          is = rw i (half n);
          fits = omega (arith, c, room, l);
          rest = let a = by_more n ss h e (rw (← i) q) f in omega (arith, c, r, rw (← i) at a);
        }

    -- It is the last, where a set is full.
    pub tallied_full : e.full ≡ true → m ≡ made_by halvings ss no_hint
    tallied_full f = go t.n t.is t.rest
      where
        go : (n : ℕ) → step ≡ 2 ^ n → count + made_by n ss h ≡ made_by halvings ss no_hint → m ≡ made_by halvings ss no_hint
        go zero i r = absurd (omega (arith, more, i))
        go (suc n) i r = let a = by_stop n ss h e (rw (← i) q) f in omega (arith, c, r, rw (← i) at a)

  -- The last is at step 1.
  pub tallied_last : step ≤ 1 → (m : ℕ) → m ≡ count + made_to places ss 1 (settled ss h) → m ≡ made_by halvings ss no_hint
  tallied_last l m c = go t.n t.is t.rest
    where
      go : (n : ℕ) → step ≡ 2 ^ n → count + made_by n ss h ≡ made_by halvings ss no_hint → m ≡ made_by halvings ss no_hint
      go zero i r = omega (arith, c, r, by_last ss h)
      go (suc n) i r = absurd (omega (arith, l, i, pow_pos n))

-- In a call: by how much is over.
module _ (ss : List Stream) (st : State) (over : ℕ) (e : over ≡ excess_sum st.nets) where
  -- Little is over: the improvements at step 1 are all.
  pub made_by_hint : over ≤ most_tried → made_to places ss 1 st ≡ made ss st
  unfolding made
  made_by_hint l = sym (rw (← e, le-leb over most_tried l))

  -- Much is over: the improvements of the phases from no hint are all.
  pub made_by_phases : most_tried < over → made_by halvings ss no_hint ≡ made ss st
  unfolding made
  made_by_phases l = sym (rw (← e, lt-leb over most_tried l))

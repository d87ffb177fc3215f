-- What a phase and an improvement over arcs need.
use mathlib.Core.Path.{sym, subst}
use mathlib.Core.List.{List}
use Prim.Native.Nat.{ℕ, ◌≤◌, ◌<◌}
use native.Mathlib.Omega.{arith}
use lib.ListN.{get_or, take}
use Rattle.plant_def.specs.Limits.{max_streams}
use Rattle.solve_def.specs.Sizes.{most_flow, settled_room}
use Rattle.solve_def.specs.declared.State.{State}
use Rattle.solve_def.specs.SearchNeeds.{Trail}
use Rattle.solve_def.proofs.Streams.{Solvable, solvable_of}
use Rattle.solve_def.proofs.Tall.{sound_moderate}
use Rattle.solve_def.proofs.Steady.{sound_within}
use Rattle.solve_arcs.specs.Cells.{count_of}
use Rattle.solve_arcs.specs.ArcNeeds.{Row, Laying, Searching, Margined}
use Rattle.solve_arcs.proofs.Rowing.{row_of}
use Rattle.solve_improve.specs.Improves.{Phasable, Improvable}

-- What the margins of a phase need: rows and amounts in range; and that they are then of all streams in use.
module _ (ls rs : List ℕ) (d : ℕ) (st : State) (w : Phasable ls rs d st) where
  -- Each row in use is of a stream that can have margins,
  pub phase_row : (k : ℕ) → k < count_of ls → Row rs k
  phase_row k l = row_of w.streams w.n rs w.network w.laid.rowed k (rw w.laid.along.counted at l)

  -- there are no more of these streams than there may be,
  pub phase_few : count_of ls ≤ max_streams
  phase_few = w.laid.along.linked.few

  -- and their amounts are no more than may be held.
  pub phase_amounts : (k : ℕ) → k < count_of ls → get_or st.flows k 0 ≤ most_flow
  phase_amounts k l =
      let v = solvable_of w.streams w.n w.network in
      let room : w.underway.size ≤ settled_room = omega (arith, w.underway.fits) in
      omega (arith, (sound_within _ v d w.underway.size w.step st w.underway.sound room k (omega (arith, phase_few))).0)

  -- Margins of as many streams as the arcs count are margins of the streams that the arcs are of.
  pub phase_margined : (xs ms : List ℕ) → Margined (count_of ls) rs xs d 0 ms → Margined w.n rs xs d 0 ms
  phase_margined xs ms m = subst (λ (k : ℕ). Margined k rs xs d 0 ms) w.laid.along.counted m

-- What an improvement needs holds all that its search needs,
abbrev pub improve_searching : (ls rs ms : List ℕ) (d : ℕ) (st : State) → Improvable ls rs ms d st → Searching ls ms st.potentials d 0
improve_searching ls rs ms d st w = record {
  streams = w.streams;
  n = w.n;
  rows = rs;
  amounts = st.flows;
  walkable = record {
    searchable = record {
      network = w.network;
      step = w.step.1;
      amounts = λ k l. omega (arith, (sound_within _ v d w.underway.size w.step st w.underway.sound (omega (arith, w.underway.fits)) k (omega (arith, w.network.within.few_streams))).0);
      potentials = w.underway.sound.capped;
    };
    met = w.underway.sound.met;
    moderate = sound_moderate _ v d w.underway.size st w.step.1 w.underway.sound;
    floored = w.underway.sound.floor;
  };
  laid = w.laid;
  margined = w.margined;
}
  where
    v : Solvable (take w.n w.streams)
    v = solvable_of w.streams w.n w.network

-- and the streams that arcs and rows are of.
abbrev pub improve_laying : (ls rs ms : List ℕ) (d : ℕ) (st : State) → Improvable ls rs ms d st → Laying ls rs
improve_laying ls rs ms d st w = record { streams = w.streams; n = w.n; network = w.network; laid = w.laid }

module _ (ls rs ms : List ℕ) (d : ℕ) (st : State) (w : Improvable ls rs ms d st) where
  -- The streams that the search remembers are in use.
  pub improve_trail : (via : List ℕ) (len : ℕ) → Trail via w.n len → Trail via (count_of ls) len
  improve_trail via len t = subst (λ (m : ℕ). Trail via m len) (sym w.laid.along.counted) t

  -- The margins before an improvement are those of as many streams as the arcs count,
  pub improve_margined : Margined (count_of ls) rs st.flows d 0 ms
  improve_margined = subst (λ (m : ℕ). Margined m rs st.flows d 0 ms) (sym w.laid.along.counted) w.margined

  -- and margins of these after it are margins of the streams that the arcs are of.
  pub improved_margined : (xs ns : List ℕ) → Margined (count_of ls) rs xs d 0 ns → Margined w.n rs xs d 0 ns
  improved_margined xs ns m = subst (λ (k : ℕ). Margined k rs xs d 0 ns) w.laid.along.counted m

-- What the solver's parts require of streams, amounts, potentials and nets.
use Rattle.std.specs.Prelude.{◌≡◌, true, false, List, pos, ◌-ℤ◌, ℕ, ◌+◌, ◌*◌, ◌≤◌, ◌<◌, length, get_or}
use Rattle.plant_def.specs.declared.Stream.{Stream}
use Rattle.plant_def.specs.Limits.{places, max_streams}
use Rattle.plant_def.specs.Plants.{no_stream}
use Rattle.flow_def.specs.Flows.{stream_at}
use Rattle.flow_def.specs.Nets.{net_of}
use Rattle.solve_def.specs.Sizes.{flow_shift, most_flow, net_shift, most_step, most_excess, metered_room, hint_room, settled_room}
use Rattle.solve_def.specs.Held.{unshifted, AllStepsMet, AllInside}
use Rattle.solve_def.specs.ReducedCosts.{reduced_cost_by}
use Rattle.solve_def.specs.SearchNeeds.{Potentials, Floored, SizeWithin}
use Rattle.solve_def.specs.declared.Hint.{Hint}
use Rattle.solve_def.specs.declared.State.{State}
use Rattle.solve_def.specs.Model.{settled, excess_sum, excess_steps}

-- A step: at least 1.
abbrev pub Step : ℕ → Type 0
Step d = (1 ≤ d) × (d ≤ most_step)

-- Held amounts, each at most most_flow.
abbrev pub Amounts : List ℕ → Type 0
Amounts xs = (k : ℕ) → k < max_streams → get_or xs k 0 ≤ most_flow

-- Held nets of size b at most.
pub record Around (es : List ℕ) (b : ℕ) : Type 0 where
  pub long : length es ≡ places
  pub low : (u : ℕ) → u < places → net_shift ≤ get_or es u 0 + b
  pub high : (u : ℕ) → u < places → get_or es u 0 ≤ net_shift + b

-- Nets of which d can move from place s to place v.
pub record Shiftable (es : List ℕ) (s v d : ℕ) : Type 0 where
  pub long : length es ≡ places
  pub start : s < places
  pub end : v < places
  pub step : d ≤ most_step
  pub enough : d ≤ get_or es s 0
  pub most_start : get_or es s 0 ≤ 2 * net_shift
  pub most_end : get_or es v 0 ≤ 2 * net_shift

-- Potentials that agree across unmetered streams.
abbrev pub Agreed : List Stream → List ℕ → Type 0
Agreed ss ps = (k : ℕ) → k < length ss → (stream_at ss k).metered ≡ false → get_or ps (stream_at ss k).from 0 ≡ get_or ps (stream_at ss k).to 0

-- Potentials to settle at, from potential_floor up, that agree across unmetered streams; and amounts for these, of size b at most.
pub record Start (ss : List Stream) (b : ℕ) (h : Hint) : Type 0 where
  pub agree : Agreed ss h.potentials
  pub floor : Floored h.potentials
  pub capped : Potentials h.potentials
  pub per_place : length h.potentials ≡ places
  pub long : length h.flows ≡ max_streams
  pub unmetered : (k : ℕ) → k < max_streams → (stream_at ss k).metered ≡ false → SizeWithin b (get_or h.flows k 0)
  pub within : b ≤ flow_shift

-- Some potentials and amounts to settle at.
pub record Ready (ss : List Stream) (h : Hint) : Type 0 where
  pub size : ℕ
  pub start : Start ss size h

-- All that is asked of a hint.
abbrev pub Hinted : List Stream → Hint → Type 0
Hinted ss h = Start ss hint_room h

-- A state that is settled at a hint.
pub record AtHint (ss : List Stream) (st : State) : Type 0 where
  pub hint : Hint
  pub hinted : Hinted ss hint
  pub is : st ≡ settled ss hint

-- A state at step d: the step condition, amounts in range, potentials that agree across unmetered streams, nets that are the amounts',
-- potentials from potential_floor up, no more over than there may be, and unmetered amounts of size b at most. (How large metered amounts
-- are follows.)
pub record Sound (ss : List Stream) (d b : ℕ) (st : State) : Type 0 where
  pub met : AllStepsMet ss st.flows st.potentials d
  pub inside : AllInside ss st.flows
  pub agreed : Agreed ss st.potentials
  pub long : length st.flows ≡ max_streams
  pub per_place : length st.potentials ≡ places
  pub netted : length st.nets ≡ places
  pub nets : (u : ℕ) → u < places → net_of ss (λ k. unshifted (get_or st.flows k 0)) u ≡ pos (get_or st.nets u 0) -ℤ pos net_shift
  pub floor : Floored st.potentials
  pub capped : Potentials st.potentials
  pub over : excess_sum st.nets + 2 * max_streams * d ≤ most_excess
  pub sized : (k : ℕ) → k < max_streams → (stream_at ss k).metered ≡ false → SizeWithin b (get_or st.flows k 0)

-- A state in a phase at step d, whose unmetered amounts stay within t: they may still grow by d for each step that is over.
pub record Underway (ss : List Stream) (d t : ℕ) (st : State) : Type 0 where
  pub size : ℕ
  pub sound : Sound ss d size st
  pub fits : size + d * excess_steps d st.nets ≤ t

-- A balanced flow in range that meets the step condition at 1, before the tie pass comes to stream i.
pub record Even (ss : List Stream) (ps : List ℕ) (i : ℕ) (xs : List ℕ) : Type 0 where
  pub long : length xs ≡ max_streams
  pub met : AllStepsMet ss xs ps 1
  pub inside : AllInside ss xs
  pub agreed : Agreed ss ps
  pub level : (u : ℕ) → u < places → net_of ss (λ k. unshifted (get_or xs k 0)) u ≡ pos 0
  pub moderate : (k : ℕ) → k < length ss → (stream_at ss k).metered ≡ true → SizeWithin (metered_room + i) (get_or xs k 0)
  pub floor : Floored ps
  pub sized : (k : ℕ) → k < max_streams → SizeWithin (settled_room + i) (get_or xs k 0)

-- Stream i is metered, and its amount can fall at no cost.
pub record Falls (streams : List Stream) (ps : List ℕ) (i : ℕ) (xs : List ℕ) : Type 0 where
  pub metered : (get_or streams i no_stream).metered ≡ true
  pub tight :
      reduced_cost_by (get_or streams i no_stream) false (get_or xs i 0) (get_or ps (get_or streams i no_stream).from 0) (get_or ps (get_or streams i no_stream).to 0) 1 ≤ 0

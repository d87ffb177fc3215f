-- What the solver promises of a plant as the code holds it.
use Rattle.std.specs.Prelude.{◌≡◌, true, false, List, ℤ, pos, ◌-ℤ◌, ℕ, ◌+◌, ◌≤◌, ◌<◌, length, get_or}
use Rattle.num_bytes.specs.Inner.{PickT}
use Rattle.plant_def.specs.declared.Plant as Arrays
use Rattle.plant_def.specs.Limits.{places, max_streams}
use Rattle.plant_def.specs.Says.{plant_of}
use Rattle.flow_def.specs.Flows.{stream_at, amount_at, Cheapest}
use Rattle.flow_def.specs.Certificate.{in_kilter}
use Rattle.flow_def.specs.Overfull.{unmarked, Overfull}
use Rattle.solve_def.specs.Sizes.{potential_shift, settled_room}
use Rattle.solve_def.specs.Held.{opened}
use Rattle.solve_def.specs.declared.Solved.{Solved}
use Rattle.solve_def.specs.SearchNeeds.{SizeWithin}

-- The potential that is held as x.
unfoldable pub potential : ℕ → ℤ
potential x = pos x -ℤ pos potential_shift

-- The potential of place u.
abbrev pub potential_at : List ℕ → ℕ → ℤ
potential_at ps u = potential (get_or ps u 0)

-- The flow that a solution holds.
abbrev pub flow_of : Arrays.Plant → Solved → List ℤ
flow_of p r = opened p.count r.flows

-- A flow is found.
pub record Solution (p : Arrays.Plant) (r : Solved) : Type 0 where
  -- It is the cheapest, the amounts of unmetered streams being such that all balances.
  pub cheapest : Cheapest (plant_of p) (flow_of p r)
  -- The potentials certify it: they are within the bounds of every stream, and agree across unmetered streams.
  pub steps : (k : ℕ) → k < length (plant_of p).streams
      → in_kilter (potential_at r.potentials) (stream_at (plant_of p).streams k) (amount_at (flow_of p r) k) ≡ true
  pub agree : (k : ℕ) → k < length (plant_of p).streams → (stream_at (plant_of p).streams k).metered ≡ false
      → potential_at r.potentials (stream_at (plant_of p).streams k).from ≡ potential_at r.potentials (stream_at (plant_of p).streams k).to
  -- A potential is from −potential_shift to 0, and an amount is of size settled_room + max_streams at most.
  pub bound : (u : ℕ) → u < places → get_or r.potentials u 0 ≤ potential_shift
  pub sized : (k : ℕ) → k < max_streams → SizeWithin (settled_room + max_streams) (get_or r.flows k 0)
  pub long : length r.flows ≡ max_streams
  pub per_place : length r.potentials ≡ places
  -- No place is marked.
  pub bare : r.marked ≡ unmarked

-- Of every plant: a flow is found, or a set of places that must take in more than it can let out.
abbrev pub Right : Arrays.Plant → Solved → Type 0
Right p r = PickT r.found (Solution p r) (Overfull (plant_of p) r.marked)

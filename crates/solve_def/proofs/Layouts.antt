-- What settling the streams of an array needs, and what it leaves.
use mathlib.Core.Path.{◌≡◌, ap, subst}
use mathlib.Core.Bool.{false}
use mathlib.Core.List.{List}
use Prim.Native.Nat.{ℕ, ◌≤◌, ◌<◌}
use native.Mathlib.Omega.{arith}
use native.Mathlib.Decide.{dec_le}
use lib.ListN.{length, get_or, take, get_or-eq_default}
use Rattle.plant_def.specs.declared.Stream.{Stream}
use Rattle.plant_def.specs.Limits.{max_streams}
use Rattle.plant_def.specs.Plants.{no_stream}
use Rattle.flow_def.specs.Flows.{stream_at}
use Rattle.solve_def.specs.Sizes.{most_flow, net_room, hint_room}
use Rattle.solve_def.specs.SearchNeeds.{Network}
use Rattle.solve_def.specs.declared.Hint.{Hint}
use Rattle.solve_def.specs.declared.State.{State}
use Rattle.solve_def.specs.Model.{settled_to, nets_to, settled}
use Rattle.solve_def.specs.SolverNeeds.{Amounts, Around, Ready, Hinted, AtHint}
use Rattle.solve_def.proofs.Booking.{around_more, nets_around}
use Rattle.solve_def.proofs.Streams.{in_use, solvable_of}
use Rattle.solve_def.proofs.Nearest.{settled_most, settled_free}

module _ (streams : List Stream) (n : ℕ) (w : Network streams n) where
  abbrev ss : List Stream
  ss = take n streams

  module _ (h : Hint) (r : Ready ss h) where
    -- Every amount can be held: in range where the stream is in use, as the hint has it past those.
    held : (k : ℕ) → k < max_streams → get_or (settled_to ss h.potentials h.flows (length ss)) k 0 ≤ most_flow
    held k l = elim (dec_le (length ss) k) [
      | yes q ↦ omega (arith, settled_free ss (solvable_of streams n w) h r.size r.start k (past k q), (r.start.unmetered k l (past k q)).0, r.start.within)
      | no q ↦ settled_most ss (solvable_of streams n w) h r.size r.start k (omega arith)
    ]
      where
        past : (k : ℕ) → length ss ≤ k → (stream_at ss k).metered ≡ false
        past k q = ap (λ (s : Stream). s.metered) (get_or-eq_default ss no_stream q)

    -- Settled amounts can be held.
    pub ready_amounts : Amounts (settled_to ss h.potentials h.flows n)
    ready_amounts k l = subst (λ (m : ℕ). get_or (settled_to ss h.potentials h.flows m) k 0 ≤ most_flow) (in_use streams n w) (held k l)

    -- The nets of the settled state are in range.
    ready_around : Around (settled ss h).nets net_room
    ready_around =
        around_more
        (nets_around ss (settled_to ss h.potentials h.flows (length ss)) (length ss) (solvable_of streams n w).plain.few (solvable_of streams n w).plain.inside
        (λ k l. held k (omega (arith, (solvable_of streams n w).plain.few))))
        net_room (omega (arith, (solvable_of streams n w).plain.few))

  -- The settled state of the streams in use.
  pub settled_is : (h : Hint) → settled ss h
      ≡ record { flows = settled_to ss h.potentials h.flows n; potentials = h.potentials; nets = nets_to ss (settled_to ss h.potentials h.flows n) n }
  settled_is h = rw (in_use streams n w)

  -- Nets of a state that is settled at a hint are in range.
  pub hinted_ready : (h : Hint) → Hinted ss h → Ready ss h
  hinted_ready h s = record { size = hint_room; start = s }

  -- Its nets are in range.
  pub at_hint_around : (st : State) → AtHint ss st → Around st.nets net_room
  at_hint_around st a = rw a.is (ready_around a.hint (hinted_ready a.hint a.hinted))

-- What is asked of the amounts routed along a spanning forest: ranges, and that metered amounts stay as they are.
use Rattle.std.specs.Prelude.{◌≡◌, ℕ, ◌<◌, ◌≤◌, true, false, List, length, take, slice_index, slice_index_or}
use Rattle.plant_def.specs.declared.Stream.{Stream}
use Rattle.plant_def.specs.Limits.{max_streams}
use Rattle.plant_def.specs.Plants.{no_stream}
use Rattle.flow_def.specs.Flows.{stream_at}
use Rattle.solve_def.specs.Sizes.{most_flow, hint_room}
use Rattle.solve_def.specs.SearchNeeds.{SizeWithin}
use Rattle.solve_arcs.specs.ArcNeeds.{Laying}
use Rattle.solve_forest.specs.declared.Forest.{Forest}
use Rattle.solve_forest.specs.Forests.{Routable}

-- Held amounts of the streams ss: those of unmetered streams are within the hint's room.
pub record Routes (ss : List Stream) (xs : List ℕ) : Type 0 where
  pub long : length xs ≡ max_streams
  pub most : (k : ℕ) → k < max_streams → slice_index xs k ≤ most_flow
  pub sized : (k : ℕ) → k < max_streams → (stream_at ss k).metered ≡ false → SizeWithin hint_room (slice_index xs k)

-- The metered ones of the first n streams carry in ys what they carry in xs.
pub record Unchanged (streams : List Stream) (n : ℕ) (xs ys : List ℕ) : Type 0 where
  pub each : (k : ℕ) → k < n → (slice_index_or streams k no_stream).metered ≡ true → slice_index ys k ≡ slice_index xs k

-- Streams that arcs are of, a forest of them, and amounts to be routed along it.
pub record Routing (ls : List ℕ) (f : Forest) (xs : List ℕ) : Type 0 where
  pub rows : List ℕ
  pub laying : Laying ls rows
  pub forest : Routable laying.streams laying.n f
  pub routes : Routes (take laying.n laying.streams) xs

-- What routing comes to.
abbrev pub Routed : List ℕ → Forest → List ℕ → List ℕ → Type 0
Routed ls f xs ys =
    (w : Routing ls f xs) → Routes (take w.laying.n w.laying.streams) ys × Unchanged w.laying.streams w.laying.n xs ys

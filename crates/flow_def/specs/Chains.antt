-- Chains of streams, and a place of each set of places that they join.
use Rattle.std.specs.Prelude.{◌≡◌, Bool, true, not, List, ℕ, ◌≤◌, ◌<◌, length, get_or}
use Rattle.plant_def.specs.declared.Stream.{Stream}
use Rattle.plant_def.specs.Plants.{Plant}
use Rattle.flow_def.specs.Flows.{stream_at}

-- Which streams count: a test of the stream's number, from 0, and its record.
abbrev pub Counting : Type 0
Counting = ℕ → Stream → Bool

-- Every stream counts,
abbrev pub every_stream : Counting
every_stream i s = true

-- or the unmetered ones alone.
abbrev pub unmetered_only : Counting
unmetered_only i s = not s.metered

-- A chain of streams that count from u to a place, each followed in either direction.
pub data Chain (counts : Counting) (ss : List Stream) (u : ℕ) : ℕ → Type 0 where
  stop : Chain counts ss u u
  along : (k : ℕ) → k < length ss → counts k (stream_at ss k) ≡ true → Chain counts ss u (stream_at ss k).from → Chain counts ss u (stream_at ss k).to
  back : (k : ℕ) → k < length ss → counts k (stream_at ss k) ≡ true → Chain counts ss u (stream_at ss k).to → Chain counts ss u (stream_at ss k).from

-- A list with one place of each set that chains join: each of the places 0 to n is joined to one of the list, and no two of the
-- list are joined.
pub record OneEach (counts : Counting) (p : Plant) (us : List ℕ) : Type 0 where
  pub place : (k : ℕ) → k < length us → get_or us k 0 ≤ p.units
  pub joined : (u : ℕ) → u ≤ p.units → (k : ℕ) × (k < length us) × Chain counts p.streams u (get_or us k 0)
  pub distinct : (j k : ℕ) → j < length us → k < length us → Chain counts p.streams (get_or us j 0) (get_or us k 0) → j ≡ k

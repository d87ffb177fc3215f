-- Sets of streams without loops. For proofs and for what inner calls require: no public promise cites it.
use Rattle.std.specs.Prelude.{◌≡◌, Bool, true, false, not, ◌&&◌, List, ℕ, ◌<◌, eqb, length}
use Rattle.plant_def.specs.declared.Stream.{Stream}
use Rattle.flow_def.specs.Flows.{stream_at}
use Rattle.flow_def.specs.Chains.{Counting}
use Rattle.flow_def.specs.Labels.{labels_after, one_label}
use Rattle.flow_def.specs.Metering.{chosen}

-- The streams that count, but one.
abbrev pub but : ℕ → Counting → Counting
but e counts i s = counts i s && not (eqb i e)

-- The streams that stay unmetered.
abbrev pub left : List Bool → Counting
left set k s = not s.metered && not (chosen set k)

-- Stream k counts and joins two groups of the streams before it.
abbrev pub joins : Counting → List Stream → ℕ → Bool
joins counts ss k = counts k (stream_at ss k) && not (one_label (labels_after counts ss k) (stream_at ss k).from (stream_at ss k).to)

-- One pass decides: each stream that counts joins two groups when it is met.
abbrev pub AllJoin : Counting → List Stream → Type 0
AllJoin counts ss = (k : ℕ) → k < length ss → counts k (stream_at ss k) ≡ true
    → one_label (labels_after counts ss k) (stream_at ss k).from (stream_at ss k).to ≡ false

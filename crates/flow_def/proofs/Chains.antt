-- Chains of streams, replaced stream by stream.
use mathlib.Core.Path.{◌≡◌, sym, subst}
use mathlib.Core.Bool.{true}
use mathlib.Core.List.{List}
use Prim.Native.Nat.{ℕ, ◌<◌}
use lib.ListN.{length}
use Rattle.plant_def.specs.declared.Stream.{Stream}
use Rattle.flow_def.specs.Flows.{stream_at}
use Rattle.flow_def.specs.Chains.{Counting, Chain}
use Rattle.flow_def.proofs.Reach.{chain_trans, chain_sym}

-- The ends of each stream that counts in the one way are joined by those that count in the other.
abbrev pub Spans : Counting → Counting → List Stream → Type 0
Spans f g ss = (k : ℕ) → k < length ss → f k (stream_at ss k) ≡ true → Chain g ss (stream_at ss k).from (stream_at ss k).to

-- Where each stream that counts under f has a chain of streams that count under g between its ends, chains are replaced by chains.
pub chain_bind : {f g : Counting} {ss : List Stream} → Spans f g ss → {u v : ℕ} → Chain f ss u v → Chain g ss u v
chain_bind h Chain.stop = Chain.stop
chain_bind h (Chain.along k l t c) = chain_trans (chain_bind h c) (h k l t)
chain_bind h (Chain.back k l t c) = chain_trans (chain_bind h c) (chain_sym (h k l t))

-- Stream k of the second list counts, and has the ends of stream k of the first.
pub record Alike (g : Counting) (ss ts : List Stream) (k : ℕ) : Type 0 where
  pub listed : k < length ts
  pub counts : g k (stream_at ts k) ≡ true
  pub from_same : (stream_at ts k).from ≡ (stream_at ss k).from
  pub to_same : (stream_at ts k).to ≡ (stream_at ss k).to

-- A chain in one list is one in another, where each stream that counts has one there that counts, of the same number and ends.
pub chain_alike : {f g : Counting} {ss ts : List Stream} → ((k : ℕ) → k < length ss → f k (stream_at ss k) ≡ true → Alike g ss ts k)
    → {u v : ℕ} → Chain f ss u v → Chain g ts u v
chain_alike h Chain.stop = Chain.stop
chain_alike {g = g} {ss = ss} {ts = ts} h {u} (Chain.along k l t c) =
    let a = h k l t in
    subst (Chain g ts u) a.to_same (Chain.along k a.listed a.counts (subst (Chain g ts u) (sym a.from_same) (chain_alike h c)))
chain_alike {g = g} {ss = ss} {ts = ts} h {u} (Chain.back k l t c) =
    let a = h k l t in
    subst (Chain g ts u) a.from_same (Chain.back k a.listed a.counts (subst (Chain g ts u) (sym a.to_same) (chain_alike h c)))

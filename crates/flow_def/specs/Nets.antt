-- The net of a place as a sum over the streams' numbers. For proofs and for what inner calls require: no public promise cites it.
use Rattle.std.specs.Prelude.{List, ℤ, pos, neg_ℤ, ◌+ℤ◌, ℕ, eqb, length}
use Rattle.num_bytes.specs.Choice.{pick}
use Rattle.num_bytes.specs.Sums.{sum}
use Rattle.plant_def.specs.declared.Stream.{Stream}
use Rattle.flow_def.specs.Flows.{stream_at}

-- What stream s, carrying x, brings to place u less what it takes from it: its entry in the incidence matrix times x.
abbrev pub brought : ℕ → Stream → ℤ → ℤ
brought u s x = pick (eqb s.to u) x (pos 0) +ℤ pick (eqb s.from u) (neg_ℤ x) (pos 0)

-- The net of a place, the flow given as a function of the stream's number.
abbrev pub net_of : List Stream → (ℕ → ℤ) → ℕ → ℤ
net_of ss x u = sum (length ss) (λ k. brought u (stream_at ss k) (x k))

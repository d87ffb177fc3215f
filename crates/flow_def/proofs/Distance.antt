-- The distance of whole numbers from a flow over d: as a sum, by the numbers of the metered streams alone, and of one stream.
use mathlib.Core.Path.{◌≡◌, refl, ap, ap₂}
use mathlib.Core.Bool.{Bool, true, false}
use mathlib.Core.List.{List}
use lib.IntN.{ℤ, pos, ◌+ℤ◌, ◌-ℤ◌, ◌*ℤ◌}
use Prim.Native.Nat.{ℕ, zero, suc, ◌+◌, ◌*◌, ◌≤◌, ◌<◌}
use native.Mathlib.Omega.{arith}
use native.Mathlib.Decide.{ℕ_discrete}
use Rattle.num_bytes.specs.Choice.{pick}
use Rattle.plant_def.specs.declared.Stream.{Stream}
use Rattle.flow_def.specs.Flows.{stream_at, amount_at, square}
use Rattle.flow_def.specs.Certificate.{weight_of}
use Rattle.num_bytes.proofs.Sums.{sum}
use Rattle.flow_def.proofs.Potentials.{weighed}
use Rattle.flow_def.specs.Least.{distance_to}

module _ (d : ℕ) (ss : List Stream) (ys : List ℤ) where
  -- What stream k with the number x has in it.
  abbrev pub part : ℕ → ℤ → ℕ
  part k x = (stream_at ss k).weight * square (pos d *ℤ x -ℤ amount_at ys k)

  -- The distance is a sum over the streams.
  pub distance_is : (x : ℕ → ℤ) (n : ℕ)
      → pos (distance_to d ss x ys n) ≡ sum n (λ k. pos (weight_of (stream_at ss k) * square (pos d *ℤ x k -ℤ amount_at ys k)))
  distance_is x zero = refl
  distance_is x (suc n) =
      ap₂ ◌+ℤ◌ (ap pos (weighed (stream_at ss n).metered (stream_at ss n).weight (square (pos d *ℤ x n -ℤ amount_at ys n)))) (distance_is x n)

  -- Numbers that agree on the metered streams are at one distance.
  pub distance_same : (x z : ℕ → ℤ) (n : ℕ) → ((k : ℕ) → k < n → (stream_at ss k).metered ≡ true → x k ≡ z k) → distance_to d ss x ys n ≡ distance_to d ss z ys n
  distance_same x z zero h = refl
  distance_same x z (suc n) h = ap₂ ◌+◌ (here (stream_at ss n).metered (h n (omega arith))) (distance_same x z n (λ k l. h k (omega arith)))
    where
      here : (b : Bool) → (b ≡ true → x n ≡ z n) → pick b (part n (x n)) 0 ≡ pick b (part n (z n)) 0
      here true e = ap (part n) (e refl)
      here false e = refl

  -- One metered stream's part is at most the whole.
  pub distance_part : (x : ℕ → ℤ) (n k : ℕ) → k < n → (stream_at ss k).metered ≡ true → part k (x k) ≤ distance_to d ss x ys n
  distance_part x zero k l t = absurd (omega arith)
  distance_part x (suc n) k l t = elim (ℕ_discrete n k) [
    | yes e ↦ rw (e, t) (omega arith)
    | no e ↦ let rest = distance_part x n k (omega arith) t in omega arith
  ]

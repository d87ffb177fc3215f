-- Flows in fractions of least cost, and how far whole numbers are from them.
use Rattle.std.specs.Prelude.{◌≡◌, true, List, ℤ, pos, ◌-ℤ◌, ◌*ℤ◌, ℕ, zero, suc, ◌+◌, ◌*◌, ◌≤◌, length}
use Rattle.num_bytes.specs.Choice.{pick}
use Rattle.plant_def.specs.declared.Stream.{Stream}
use Rattle.plant_def.specs.Plants.{Plant}
use Rattle.flow_def.specs.Flows.{stream_at, amount_at, allowed_over, square, cost_over}

-- A flow over d, balanced and within all ranges, that no other such flow undercuts, over any denominator e: its cost, cost_over d
-- divided by d squared, is at most the other's, cost_over e divided by e squared.
pub record LeastInFractions (p : Plant) (d : ℕ) (ys : List ℤ) : Type 0 where
  pub some : 1 ≤ d
  pub allowed : allowed_over d p ys ≡ true
  pub least : (e : ℕ) (zs : List ℤ) → 1 ≤ e → allowed_over e p zs ≡ true
      → e * e * cost_over d p.streams ys ≤ d * d * cost_over e p.streams zs

-- How far whole numbers, stream k having x k, are from a flow over d: the sum over the metered streams, of the first k, of weight
-- times (d × number − amount) squared. That is d squared times the sum of weight times (number − amount / d) squared.
abbrev pub distance_to : ℕ → List Stream → (ℕ → ℤ) → List ℤ → ℕ → ℕ
distance_to d ss x ys zero = 0
distance_to d ss x ys (suc k) =
    let s = stream_at ss k in
    pick s.metered (s.weight * square (pos d *ℤ x k -ℤ amount_at ys k)) 0 + distance_to d ss x ys k

-- The same over all metered streams.
abbrev pub distance : ℕ → List Stream → (ℕ → ℤ) → List ℤ → ℕ
distance d ss x ys = distance_to d ss x ys (length ss)

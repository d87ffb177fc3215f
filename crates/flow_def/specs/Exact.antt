-- Potentials of places by which a flow in fractions is seen to be of least cost without a search.
use Rattle.std.specs.Prelude.{Bool, not, ◌&&◌, ◌||◌, List, ℤ, pos, ◌-ℤ◌, ◌*ℤ◌, ℕ, ◌*◌, eqb, leb, length}
use Rattle.std.specs.Int.Signed.{lt_z, le_z}
use Rattle.plant_def.specs.declared.Stream.{Stream}
use Rattle.plant_def.specs.Plants.{Plant, limited, plant_fault}
use Rattle.flow_def.specs.Flows.{stream_at, amount_at, allowed_over}
use Rattle.flow_def.specs.Certificate.{weight_of, climb, every, listed_potential}

-- More than an amount over d is in the stream's range.
abbrev pub rises_over : ℕ → Stream → ℤ → Bool
rises_over d s y = not (limited s) || lt_z y (pos d *ℤ s.high)

-- Less is in range: the amount is above d × low.
abbrev pub falls_over : ℕ → Stream → ℤ → Bool
falls_over d s y = not (limited s) || lt_z (pos d *ℤ s.low) y

-- The marginal cost of an amount over d: twice the weight times amount less reading.
abbrev pub marginal : ℕ → Stream → ℤ → ℤ
marginal d s y = pos (2 * weight_of s) *ℤ (y -ℤ pos d *ℤ s.reading)

-- The potentials at a stream's ends differ by the marginal cost; at the low end of its range they may differ by less, at the high
-- end by more.
abbrev pub exact : ℕ → (ℕ → ℤ) → Stream → ℤ → Bool
exact d π s y =
    (not (falls_over d s y) || le_z (marginal d s y) (climb π s))
    && (not (rises_over d s y) || le_z (climb π s) (marginal d s y))

-- A plant without fault, a balanced flow over d within all ranges, and such potentials, listed for the places 0 to n.
abbrev pub exact_potentials : ℕ → Plant → List ℤ → List ℤ → Bool
exact_potentials d p ys potentials =
    let s = stream_at p.streams in
    eqb (plant_fault p) 0
    && (leb 1 d
    && (allowed_over d p ys
    && every (length p.streams) (λ k. exact d (listed_potential potentials) (s k) (amount_at ys k))))

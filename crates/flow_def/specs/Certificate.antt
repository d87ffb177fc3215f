-- Certificates: potentials of places by which a flow is seen to be the cheapest without a search.
use Rattle.std.specs.Prelude.{Bool, true, not, ◌&&◌, ◌||◌, List, ℤ, pos, ◌+ℤ◌, ◌-ℤ◌, ◌*ℤ◌, ℕ, zero, suc, eqb, length, get_or}
use Rattle.std.specs.Int.Signed.{lt_z, le_z}
use Rattle.num_bytes.specs.Choice.{pick}
use Rattle.plant_def.specs.declared.Stream.{Stream}
use Rattle.plant_def.specs.Plants.{Plant, limited, plant_fault}
use Rattle.flow_def.specs.Flows.{stream_at, amount_at, allowed}

-- An unmetered stream counts as one of weight 0.
abbrev pub weight_of : Stream → ℕ
weight_of s = pick s.metered s.weight 0

-- The difference of the potentials (node potentials) at a stream's ends.
abbrev pub climb : (ℕ → ℤ) → Stream → ℤ
climb π s = π s.to -ℤ π s.from

-- The lower bound on it, at step Δ, of a stream of weight w whose amount is d above its reading: the marginal cost of less.
abbrev pub lower : ℕ → ℕ → ℤ → ℤ
lower Δ w d = pos w *ℤ (pos 2 *ℤ d -ℤ pos Δ)

-- The upper of the two: the marginal cost of more.
abbrev pub upper : ℕ → ℕ → ℤ → ℤ
upper Δ w d = pos w *ℤ (pos 2 *ℤ d +ℤ pos Δ)

-- The least that the potentials may climb along a stream that carries x: the lower bound at step 1.
abbrev pub least_climb : Stream → ℤ → ℤ
least_climb s x = lower 1 (weight_of s) (x -ℤ s.reading)

-- The most that the potentials may climb along it.
abbrev pub most_climb : Stream → ℤ → ℤ
most_climb s x = upper 1 (weight_of s) (x -ℤ s.reading)

-- More than x is in the stream's range: it has none, or x is below its high end.
abbrev pub rises : Stream → ℤ → Bool
rises s x = not (limited s) || lt_z x s.high

-- Less than x is in the stream's range.
abbrev pub falls : Stream → ℤ → Bool
falls s x = not (limited s) || lt_z s.low x

-- The potentials at a stream's ends are within its bounds: neither less nor more on it would lower the cost. At an end of the
-- range the bound that asks for more, or less, is waived.
abbrev pub in_kilter : (ℕ → ℤ) → Stream → ℤ → Bool
in_kilter π s x = (not (falls s x) || le_z (least_climb s x) (climb π s)) && (not (rises s x) || le_z (climb π s) (most_climb s x))

-- Less on it would raise the cost, or is not in its range.
abbrev pub stays : (ℕ → ℤ) → Stream → ℤ → Bool
stays π s x = not (falls s x) || lt_z (least_climb s x) (climb π s)

-- A test of each number below n.
abbrev pub every : ℕ → (ℕ → Bool) → Bool
every zero test = true
every (suc n) test = test n && every n test

-- Potentials listed for the places 0 to n.
abbrev pub listed_potential : List ℤ → ℕ → ℤ
listed_potential potentials u = get_or potentials u (pos 0)

-- A plant without fault, a balanced flow in range, potentials within the bounds of each stream, and each metered stream stays.
abbrev pub certified : Plant → List ℤ → List ℤ → Bool
certified p xs potentials =
    let π = listed_potential potentials in
    let m = length p.streams in
    eqb (plant_fault p) 0
    && (allowed p xs
    && (every m (λ k. in_kilter π (stream_at p.streams k) (amount_at xs k))
    && every m (λ k. let s = stream_at p.streams k in not s.metered || stays π s (amount_at xs k))))

-- Margins: for each arc its marginal cost, what one step more along it costs at the present amounts, before potentials.
use Rattle.std.specs.Prelude.{Bool, true, false, ◌&&◌, List, ℕ, ◌+◌, ◌-◌, ◌*◌, ltb, get_or, set}
use Rattle.num_bytes.specs.Choice.{pick}
use Rattle.num_bytes.specs.Inner.{values}
use Rattle.solve_def.specs.Sizes.{most_pull, farthest}
use Rattle.solve_def.specs.ReducedCosts.{room_by}
use Rattle.solve_arcs.specs.Cells.{arc_of, count_of, starts_of, ends_of}

-- A margin z is held as z + lift, which no margin that arises takes below 0; an arc that is shut has the margin shut, 2^62:
-- farthest + potential_shift + lift ≤ shut, and in 64 bits shut + potential_shift < 2^64.
abbrev pub lift : ℕ
lift = 2 * most_pull

-- The margin of an arc that is shut: one without room for the step, or of a stream that is left alone.
abbrev pub shut : ℕ
shut = 4611686018427387904

-- Of a stream of weight w, q being twice the weight times the reading, with the amount x, from low to high in range, at step d.
abbrev pub cost_by : ℕ → ℕ → Bool → ℕ → ℕ → ℕ
cost_by w q f x d = pick f ((2 * (w * x) + (w * d + lift)) - q) ((q + (w * d + lift)) - 2 * (w * x))

-- The margin: the marginal cost where there is room for the step, else shut.
abbrev pub margin_by : ℕ → ℕ → ℕ → ℕ → Bool → ℕ → ℕ → ℕ
margin_by w q low high f x d = pick (room_by low high f x d) (cost_by w q f x d) shut

-- Of stream k by its row.
abbrev pub margin_at : List ℕ → Bool → ℕ → ℕ → ℕ → ℕ
margin_at rs f k x d = margin_by (get_or rs (4 * k) 0) (get_or rs (4 * k + 1) 0) (get_or rs (4 * k + 2) 0) (get_or rs (4 * k + 3) 0) f x d

-- Both margins of stream k are put.
abbrev pub margins_put : List ℕ → ℕ → ℕ → ℕ → List ℕ → List ℕ
margins_put rs k x d ms = set (set ms (2 * k + 1) (margin_at rs true k x d)) (2 * k) (margin_at rs false k x d)

-- Stream k is left alone: it is metered, and its number below skip. Its arcs are shut.
abbrev pub spared : List ℕ → ℕ → ℕ → Bool
spared rs skip k = ltb 0 (get_or rs (4 * k) 0) && ltb k skip

-- The smaller of two numbers.
abbrev pub less_of : ℕ → ℕ → ℕ
less_of a b = pick (ltb b a) b a

-- The reduced cost of an arc of margin m, from a place of potential p to one of potential r; at least 0 and at most farthest. It is the
-- reduced cost of the arc's stream (reduced_cost_past in Reduced cost).
abbrev pub reduced_cost : ℕ → ℕ → ℕ → ℕ
reduced_cost m p r = less_of ((m + p) - (r + lift)) farthest

-- Where stream k is left in one direction: its start forwards, its end backwards.
abbrev pub leaves : List ℕ → Bool → ℕ → ℕ
leaves ls f k = pick f (get_or (starts_of ls) k 0) (get_or (ends_of ls) k 0)

-- Where stream k leads in one direction.
abbrev pub reaches : List ℕ → Bool → ℕ → ℕ
reaches ls f k = pick f (get_or (ends_of ls) k 0) (get_or (starts_of ls) k 0)

-- The reduced costs of the streams in use in one direction.
unfoldable pub reduced_costs : List ℕ → List ℕ → List ℕ → Bool → List ℕ
reduced_costs ls ms ps f = values (count_of ls) (λ k. reduced_cost (get_or ms (arc_of k f) 0) (get_or ps (leaves ls f k) 0) (get_or ps (reaches ls f k) 0))

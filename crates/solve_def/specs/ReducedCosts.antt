-- Reduced costs, and the stream of least reduced cost that leaves the visited places.
use Rattle.std.specs.Prelude.{Bool, true, false, ◌&&◌, List, ℕ, zero, suc, ◌+◌, ◌-◌, ◌*◌, ltb, leb, get_or}
use Rattle.num_bytes.specs.Choice.{pick}
use Rattle.plant_def.specs.declared.Stream.{Stream}
use Rattle.flow_def.specs.Flows.{stream_at}
use Rattle.flow_def.specs.Certificate.{weight_of}
use Rattle.solve_def.specs.Held.{reading_of, low_of, high_of}
use Rattle.solve_def.specs.Sizes.{farthest}

-- The reduced cost of a stream: what the potential of its visited end has to fall before d moved along it, forwards or backwards, keeps the
-- step condition. In numbers: w is its weight, and q twice the weight times its reading.
abbrev pub reduced_cost_in : ℕ → ℕ → Bool → ℕ → ℕ → ℕ → ℕ → ℕ
reduced_cost_in w q forwards x pu pv d = pick forwards ((2 * (w * x) + w * d + pu) - (pv + q)) ((pv + q + w * d) - (2 * (w * x) + pu))

-- An amount x, from low to high in range, can move by d: rise where the stream is met forwards, fall where it is met backwards.
abbrev pub room_by : ℕ → ℕ → Bool → ℕ → ℕ → Bool
room_by low high forwards x d = pick forwards (leb (x + d) high) (leb (low + d) x)

-- A stream that cannot move by d has the reduced cost `farthest`.
abbrev pub reduced_cost_by : Stream → Bool → ℕ → ℕ → ℕ → ℕ → ℕ
reduced_cost_by s forwards x pu pv d =
    pick (room_by (low_of s) (high_of s) forwards x d) (reduced_cost_in (weight_of s) (2 * (weight_of s * reading_of s)) forwards x pu pv d) farthest

-- The reduced cost of stream k, with the amounts xs and the potentials ps.
abbrev pub reduced_cost_at : List Stream → List ℕ → List ℕ → ℕ → ℕ → Bool → ℕ
reduced_cost_at ss xs ps d k b = reduced_cost_by (stream_at ss k) b (get_or xs k 0) (get_or ps (stream_at ss k).from 0) (get_or ps (stream_at ss k).to 0) d

-- A metered stream before number skip is left alone: it counts as one that cannot move.
abbrev pub reduced_cost_past : List Stream → List ℕ → List ℕ → ℕ → ℕ → Bool → ℕ → ℕ
reduced_cost_past ss xs ps d skip b k = pick ((stream_at ss k).metered && ltb k skip) farthest (reduced_cost_at ss xs ps d k b)

-- A stream that leaves the visited places, by its number, with its reduced cost; or no such stream.
pub data Crossing : Type 0 where
  Nothing : Crossing
  At : ℕ → ℕ → Crossing

-- Of what was found and stream i with reduced cost g, the one of less reduced cost; the earlier of two alike.
abbrev pub lesser : Crossing → ℕ → ℕ → Crossing
lesser Nothing i g = At i g
lesser (At j h) i g = pick (ltb g h) (At i g) (At j h)

-- By whether the start and the end of a stream are visited: only its end is not, or only its start, or both or neither.
abbrev pub by_ends : {A : Type 0} → Bool → Bool → A → A → A → A
by_ends true true within forwards backwards = within
by_ends true false within forwards backwards = forwards
by_ends false true within forwards backwards = backwards
by_ends false false within forwards backwards = within

-- Stream i, with the amount x, weighed against what was found; ls tells which places are visited and ps the potentials.
abbrev pub weighed : List ℕ → List Bool → ℕ → Crossing → ℕ → Stream → ℕ → Crossing
weighed ps ls d f i s x =
    by_ends (get_or ls s.from false) (get_or ls s.to false) f
    (lesser f i (reduced_cost_by s true x (get_or ps s.from 0) (get_or ps s.to 0) d))
    (lesser f i (reduced_cost_by s false x (get_or ps s.from 0) (get_or ps s.to 0) d))

-- Metered streams before number skip are left alone.
unfoldable pub considered : List ℕ → List Bool → ℕ → ℕ → Crossing → ℕ → Stream → ℕ → Crossing
considered ps ls d skip f i s x = pick (s.metered && ltb i skip) f (weighed ps ls d f i s x)

-- The stream of least reduced cost among the first n that leave the visited places.
unfoldable pub least_to : List Stream → List ℕ → List ℕ → List Bool → ℕ → ℕ → ℕ → Crossing
least_to ss xs ps ls d skip zero = Nothing
least_to ss xs ps ls d skip (suc n) =
    considered ps ls d skip (least_to ss xs ps ls d skip n) n (stream_at ss n) (get_or xs n 0)

-- The solver as definitions, over held amounts, potentials and nets: settle, improve, phases, ties. (Of a hint only ranges are asked, in
-- SolverNeeds.)
use Rattle.std.specs.Prelude.{Bool, true, false, ◌&&◌, List, [], ◌∷◌, ℕ, zero, suc, ◌+◌, ◌-◌, ◌*◌, ◌/◌, ◌^◌, ltb, leb, length, get_or, set, replicate}
use Rattle.num_bytes.specs.Choice.{pick}
use Rattle.num_bytes.specs.Inner.{values}
use Rattle.plant_def.specs.declared.Stream.{Stream}
use Rattle.plant_def.specs.Limits.{places, max_streams}
use Rattle.flow_def.specs.Flows.{stream_at}
use Rattle.flow_def.specs.Overfull.{unmarked}
use Rattle.solve_def.specs.Sizes.{flow_shift, potential_shift, net_shift, search_rounds, most_tried, halvings}
use Rattle.flow_def.specs.Certificate.{weight_of}
use Rattle.solve_def.specs.Held.{reading_of, low_of, high_of}
use Rattle.solve_def.specs.ReducedCosts.{reduced_cost_by}
use Rattle.solve_def.specs.Search.{root_at, target, Grown, sought, tight_path}
use Rattle.solve_def.specs.Compression.{refloored}
use Rattle.solve_def.specs.Full.{overfull}
use Rattle.solve_def.specs.Augment.{augmented}
use Rattle.solve_def.specs.declared.Hint.{Hint}
use Rattle.solve_def.specs.declared.State.{State}
use Rattle.solve_def.specs.declared.Ended.{Ended}

-- A number brought into a range.
abbrev pub clamped : ℕ → ℕ → ℕ → ℕ
clamped low high x = pick (ltb x low) low (pick (ltb high x) high x)

-- Settle. The amount nearest to a reading R at the potentials pu and pv of a stream's start and its end, w being its weight: the reading
-- plus (pv − pu) / 2w, rounded to the nearest, a half up.
abbrev pub nearest_amount : ℕ → ℕ → ℕ → ℕ → ℕ
nearest_amount w R pu pv = pick (leb pu (pv + w)) (R + (pv + w - pu) / (2 * w)) (R - (pu - pv + w - 1) / (2 * w))

-- A metered stream's amount: the nearest, brought into the stream's range.
abbrev pub settled_of : Stream → ℕ → ℕ → ℕ
settled_of s pu pv = clamped (low_of s) (high_of s) (nearest_amount (weight_of s) (reading_of s) pu pv)

-- The amounts xs with those of the metered streams among the first n settled at the potentials ps.
unfoldable pub settled_to : List Stream → List ℕ → List ℕ → ℕ → List ℕ
settled_to ss ps xs zero = xs
settled_to ss ps xs (suc n) =
    let ys = settled_to ss ps xs n in
    let s = stream_at ss n in
    pick s.metered (set ys n (settled_of s (get_or ps s.from 0) (get_or ps s.to 0))) ys

-- The nets after the amount x leaves place u.
abbrev pub left : List ℕ → ℕ → ℕ → List ℕ
left es u x = set es u (get_or es u 0 + flow_shift - x)

-- The nets after the amount x comes to place u.
abbrev pub come : List ℕ → ℕ → ℕ → List ℕ
come es u x = set es u (get_or es u 0 + x - flow_shift)

-- The nets with a stream's amount x in them: it leaves the start and comes to the end.
abbrev pub booked : List ℕ → Stream → ℕ → List ℕ
booked es s x = come (left es s.from x) s.to x

-- By the first n streams.
unfoldable pub nets_to : List Stream → List ℕ → ℕ → List ℕ
nets_to ss xs zero = replicate places net_shift
nets_to ss xs (suc n) = booked (nets_to ss xs n) (stream_at ss n) (get_or xs n 0)

-- The amounts settled at the potentials of a hint, which has the amounts of the unmetered streams; and the nets.
abbrev pub settled : List Stream → Hint → State
settled ss h =
    let ys = settled_to ss h.potentials h.flows (length ss) in
    record { flows = ys; potentials = h.potentials; nets = nets_to ss ys (length ss) }

-- Improve. The nets after d moves from place s to place v.
abbrev pub shifted_nets : List ℕ → ℕ → ℕ → ℕ → List ℕ
shifted_nets es s v d = let fs = set es s (get_or es s 0 - d) in set fs v (get_or fs v 0 + d)

-- A state by its parts.
abbrev pub state_of : List ℕ → List ℕ → List ℕ → State
state_of xs ps es = record { flows = xs; potentials = ps; nets = es }

-- A state after an attempt to improve it: done is false where no place with a negative net could be reached; and the places visited.
pub record Improved : Type 0 where
  pub done : Bool
  pub state : State
  pub visited : List Bool

-- A state after an attempt, by its parts.
abbrev pub improved_by : Bool → State → List Bool → Improved
improved_by b st ls = record { done = b; state = st; visited = ls }

-- The state after d is augmented along the way that a search found; where potentials have fallen too far they are compressed.
abbrev pub augmented_on : List Stream → State → ℕ → ℕ → Grown → State
augmented_on ss st d s g =
    record {
      flows = augmented ss g.tree.via g.tree.ends d g.tree.len (target g.tree) st.flows;
      potentials = refloored g.potentials;
      nets = shifted_nets st.nets s (target g.tree) d;
    }

-- From place s: a search to a place with a negative net, and d augmented along the way to it.
abbrev pub improved_at : List Stream → State → ℕ → ℕ → Improved
improved_at ss st d s =
    let g = sought ss st.flows st.nets st.potentials d s in
    improved_by g.found (pick g.found (augmented_on ss st d s g) st) g.tree.visited

-- The summed positive net.
unfoldable pub excess_sum : List ℕ → ℕ
excess_sum [] = 0
excess_sum (e ∷ es) = (e - net_shift) + excess_sum es

-- How many steps of d the positive nets have, place by place.
unfoldable pub excess_steps : ℕ → List ℕ → ℕ
excess_steps d [] = 0
excess_steps d (e ∷ es) = (e - net_shift) / d + excess_steps d es

-- No hint: amounts and potentials 0.
abbrev pub no_hint : Hint
no_hint = record { flows = replicate max_streams flow_shift; potentials = replicate places potential_shift }

-- The amounts and the potentials of a state, as a hint.
abbrev pub as_hint : State → Hint
as_hint st = record { flows = st.flows; potentials = st.potentials }

-- What a phase comes to: a state; or, where it is full, a set of places that must take in more than it can let out.
abbrev pub ended_by : Bool → State → List Bool → Ended
ended_by b st ls = record { full = b; state = st; marked = ls }

-- No set is full so far.
abbrev pub going : State → Ended
going st = ended_by false st unmarked

-- At most k improvements at step d from place s. Where none can be made, the visited places are tested at once, and the place is left
-- as it is for this phase.
unfoldable pub from_place : ℕ → List Stream → ℕ → ℕ → State → Ended
from_place zero ss d s st = going st
from_place (suc k) ss d s st =
    let r = improved_at ss st d s in
    pick r.done (from_place k ss d s r.state) (pick (overfull ss r.visited) (ended_by true st r.visited) (going st))

-- A phase at step d: from the first n places, one after the other, as many improvements as their nets have steps.
unfoldable pub phase_to : ℕ → List Stream → ℕ → State → Ended
phase_to zero ss d st = going st
phase_to (suc n) ss d st =
    let e = phase_to n ss d st in
    pick e.full e (from_place ((get_or e.state.nets n 0 - net_shift) / d) ss d n e.state)

-- A phase at step d, from all places.
abbrev pub phase : List Stream → ℕ → State → Ended
phase ss d st = phase_to places ss d st

-- Phases at the steps 2^n, half of it, and so on to 1, before each of which amounts are settled anew: first at a hint.
unfoldable pub phases : ℕ → List Stream → Hint → Ended
phases zero ss h = phase ss 1 (settled ss h)
phases (suc n) ss h =
    let e = phase ss (2 ^ suc n) (settled ss h) in
    pick e.full e (phases n ss (as_hint e.state))

-- From amounts settled at a hint: one phase at step 1; where too much is over, all phases from no hint.
unfoldable pub finished : List Stream → State → Ended
finished ss st = pick (leb (excess_sum st.nets) most_tried) (phase ss 1 st) (phases halvings ss no_hint)

-- Ties. Where a way round stream i was found, from its start to its end v, 1 is moved along it and stream i carries 1 less.
abbrev pub tied_by : List Stream → List ℕ → ℕ → ℕ → Grown → List ℕ
tied_by ss xs v i g =
    let ys = augmented ss g.tree.via g.tree.ends 1 g.tree.len v xs in
    pick g.found (set ys i (get_or ys i 0 - 1)) xs

-- The tie pass at stream i: the flow stays as it is where the stream is unmetered, cannot fall at no cost, or has no way without reduced cost round it.
unfoldable pub tied_at : List Stream → List ℕ → ℕ → List ℕ → List ℕ
tied_at ss ps i xs =
    let s = stream_at ss i in
    pick s.metered
    (pick (ltb 0 (reduced_cost_by s false (get_or xs i 0) (get_or ps s.from 0) (get_or ps s.to 0) 1)) xs
    (tied_by ss xs s.to i (tight_path ss (length ss) xs ps s.to (suc i) search_rounds (root_at s.from))))
    xs

-- The first n streams, one after the other.
unfoldable pub ties_to : List Stream → List ℕ → ℕ → List ℕ → List ℕ
ties_to ss ps zero xs = xs
ties_to ss ps (suc i) xs = tied_at ss ps i (ties_to ss ps i xs)

-- The marks of the places 0 to n alone.
unfoldable pub masked : ℕ → List Bool → List Bool
masked n ms = values places (λ u. get_or ms u false && leb u n)

-- The codes that a walk keeps: those of the definition (relaxed_to in Near), but 0 for a visited place, so that no offer to it is less.
use Rattle.std.specs.Prelude.{◌≡◌, Bool, true, false, List, ℕ, ◌+◌, ◌*◌, ◌≤◌, ◌<◌, get_or, length}
use Rattle.num_bytes.specs.Choice.{pick}
use Rattle.num_bytes.specs.Inner.{values}
use Rattle.plant_def.specs.Limits.{places}
use Rattle.num_bytes.specs.Sums.{bit}
use Rattle.solve_def.specs.Sizes.{far, farthest, numbering}
use Rattle.solve_def.specs.declared.Spot.{Spot}
use Rattle.solve_def.specs.Near.{relaxed_to, nearest_within}
use Rattle.solve_def.specs.Fringe.{Fringe}
use Rattle.solve_arcs.specs.Cells.{count_of, starts_of, ends_of}
use Rattle.solve_arcs.specs.Margins.{reduced_costs}
use Rattle.solve_arcs.specs.ArcNeeds.{Ways}

-- The codes of the definition; vs are the visited places.
unfoldable pub shown : List Bool → List ℕ → List ℕ
shown vs near = values places (λ v. pick (get_or vs v false) far (get_or near v 0))

-- Codes of a walk over places at distances up to a limit, and the fringe m: no code is above the least one that is beyond the limit, and
-- those of the fringe are below it.
pub record Coded (limit : ℕ) (vs : List Bool) (near : List ℕ) (m : ℕ) : Type 0 where
  pub low : limit ≤ far
  pub capped : (v : ℕ) → v < places → get_or near v 0 ≤ (limit + 1) * numbering
  pub within : (v : ℕ) → bit v m ≡ true → get_or near v 0 < (limit + 1) * numbering
  pub zero : (v : ℕ) → v < places → get_or vs v false ≡ true → get_or near v 0 ≡ 0
  pub fresh : (v : ℕ) → bit v m ≡ true → get_or vs v false ≡ false
  pub fringe : Fringe limit (shown vs near) m

-- The nearest place of a fringe, whatever the limit and whichever places are visited.
abbrev pub NearestFound : List ℕ → ℕ → ℕ → Type 0
NearestFound near m r = (r ≤ places) × ((limit : ℕ) (vs : List Bool) → Coded limit vs near m → r ≡ nearest_within (shown vs near) limit)

-- The codes after the streams at place e were looked at, at distance k.
abbrev pub looked_at : List ℕ → List ℕ → List ℕ → List Bool → ℕ → ℕ → List ℕ → List ℕ
looked_at ls ms ps vs k e near = relaxed_to (starts_of ls) (ends_of ls) (reduced_costs ls ms ps true) (reduced_costs ls ms ps false) vs k e (count_of ls) near

-- What a look along the arcs of a place requires.
abbrev pub Standing : List ℕ → List ℕ → List ℕ → Spot → List ℕ → Type 0
Standing ls ms ps at near = Ways ls ms ps × (at.place < places) × (at.distance < farthest) × (length near ≡ places)

-- What it comes to where the places vs are visited.
pub record Looked (ls ms ps : List ℕ) (k e : ℕ) (before : List ℕ) (m : ℕ) (after : List ℕ) (r limit : ℕ) (vs : List Bool) : Type 0 where
  pub coded : Coded limit vs after r
  pub same : shown vs after ≡ looked_at ls ms ps vs k e (shown vs before)

-- What a look along the arcs of a place comes to, whatever the limit and whichever places are visited.
abbrev pub LookedAlong : List ℕ → List ℕ → List ℕ → Spot → List ℕ → List ℕ → ℕ → Type 0
LookedAlong ls ms ps at before after r = (length after ≡ places)
    × ((limit : ℕ) (vs : List Bool) → Coded limit vs before at.fringe → Looked ls ms ps at.distance at.place before at.fringe after r limit vs)

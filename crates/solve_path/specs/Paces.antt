-- One step of a walk over arcs: that of the definition (Stepped in Fringe), by the codes that are kept.
use Rattle.std.specs.Prelude.{◌≡◌, Bool, true, List, ℕ, ◌≤◌, ◌<◌, length, set, take}
use Rattle.plant_def.specs.Limits.{places}
use Rattle.solve_def.specs.Sizes.{farthest, search_rounds}
use Rattle.solve_def.specs.declared.Spot.{Spot}
use Rattle.solve_def.specs.declared.Walked.{Walked}
use Rattle.solve_def.specs.declared.Searched.{Searched}
use Rattle.solve_def.specs.Search.{root_at, grown_by, sought, tight_path}
use Rattle.solve_def.specs.Fringe.{Stepped}
use Rattle.solve_arcs.specs.ArcNeeds.{Ways, Searching}
use Rattle.solve_path.specs.Codes.{shown, Coded, looked_at}

-- Where the places vs are visited: a step of the definition within the limit, and codes kept for the next.
pub record Paced (ls ms ps : List ℕ) (k e : ℕ) (before after : List ℕ) (r : Spot) (limit : ℕ) (vs : List Bool) : Type 0 where
  pub stepped : Stepped limit (looked_at ls ms ps vs k e (shown vs before)) k (shown (set vs r.place true) after) r
  pub coded : (r.place ≡ places → ⊥) → Coded limit (set vs r.place true) after r.fringe

-- What a step of a walk requires.
abbrev pub Pacing : List ℕ → List ℕ → List ℕ → Spot → List ℕ → Type 0
Pacing ls ms ps at near =
    Ways ls ms ps × (at.place < places) × (at.distance < farthest) × (length near ≡ places)
    × ((limit : ℕ) × (vs : List Bool) × Coded limit vs near at.fringe)

-- What a step of a walk comes to, whatever the limit and whichever places are visited.
abbrev pub PacedAlong : List ℕ → List ℕ → List ℕ → Spot → List ℕ → List ℕ → Spot → Type 0
PacedAlong ls ms ps at before after r = (length after ≡ places)
    × ((limit : ℕ) (vs : List Bool) → length vs ≡ places → Coded limit vs before at.fringe
    → Paced ls ms ps at.distance at.place before after r limit vs)
    × (r.place ≤ places)

-- What a walk over arcs without reduced cost hands over of it.
abbrev pub Tightly : Walked → Searched → Type 0
Tightly w r = (r.found ≡ w.found) × (r.tree ≡ w.tree)

-- What a search hands over, of the streams that the arcs are of, whichever they are: qs are the potentials after it.
abbrev pub Sought : List ℕ → List ℕ → List ℕ → List ℕ → ℕ → ℕ → Searched → List ℕ → Type 0
Sought ls ms ps es d s r qs =
    (w : Searching ls ms ps d 0) → grown_by r.found r.tree qs ≡ sought (take w.n w.streams) w.amounts es ps d s

-- And a search from place s over arcs of reduced cost 0 until v is visited.
abbrev pub SoughtTightly : List ℕ → List ℕ → List ℕ → ℕ → ℕ → Searched → Type 0
SoughtTightly ls ms ps s v r = (skip : ℕ) (w : Searching ls ms ps 1 skip)
    → grown_by r.found r.tree ps ≡ tight_path (take w.n w.streams) w.n w.amounts ps v skip search_rounds (root_at s)

-- Streams that arcs and rows are of, potentials, and a flow before the tie pass comes to stream i.
use Rattle.std.specs.Prelude.{◌≡◌, Bool, false, ◌&&◌, List, ℕ, ◌+◌, ◌*◌, ◌<◌, eqb, ltb, get_or, take}
use Rattle.num_bytes.specs.Lent.{Lent, LentMut}
use Rattle.plant_def.specs.declared.Stream.{Stream}
use Rattle.solve_def.specs.SearchNeeds.{Network, Potentials}
use Rattle.solve_def.specs.Model.{tied_at, ties_to}
use Rattle.solve_def.specs.SolverNeeds.{Even, Falls}
use Rattle.solve_arcs.specs.Cells.{count_of}
use Rattle.solve_arcs.specs.Margins.{reduced_costs}
use Rattle.solve_arcs.specs.ArcNeeds.{Laid, Margined}

-- What the tie pass needs when it comes to stream i.
pub record Tieable (ls rs ps : List ℕ) (i : ℕ) (xs : List ℕ) : Type 0 where
  pub streams : List Stream
  pub n : ℕ
  pub network : Network streams n
  pub laid : Laid streams n ls rs
  pub potentials : Potentials ps
  pub even : Even (take n streams) ps i xs

-- Where it can fall at no cost.
pub record Tying (ls rs ps : List ℕ) (i : ℕ) (xs : List ℕ) : Type 0 where
  pub tieable : Tieable ls rs ps i xs
  pub below : i < tieable.n
  pub falls : Falls tieable.streams ps i xs

-- Whether stream i is metered and its amount can fall at no cost.
abbrev pub can_fall : List ℕ → List ℕ → List ℕ → List ℕ → ℕ → Bool
can_fall ls rs ms ps i = ltb 0 (get_or rs (4 * i) 0) && eqb (get_or (reduced_costs ls ms ps false) i 0) 0

-- Margins with the streams before i left alone become margins with stream i left alone too.
abbrev pub Spared : List ℕ → ℕ → List ℕ → List ℕ → Type 0
Spared rs i ms ms' = (n : ℕ) (xs : List ℕ) → Margined n rs xs 1 i ms → Margined n rs xs 1 (i + 1) ms'

-- What the tie pass comes to at stream i, whichever streams the arcs are of.
abbrev pub TiedAt : List ℕ → List ℕ → List ℕ → ℕ → List ℕ → List ℕ → Type 0
TiedAt ls rs ps i xs xs' = (w : Tying ls rs ps i xs) → xs' ≡ tied_at (take w.tieable.n w.tieable.streams) ps i xs

-- What the tie pass comes to in all, whichever streams the arcs are of.
abbrev pub TiedAll : List ℕ → List ℕ → List ℕ → List ℕ → List ℕ → Type 0
TiedAll ls rs ps xs xs' = (w : Tieable ls rs ps 0 xs) → xs' ≡ ties_to (take w.n w.streams) ps w.n xs

-- What the tie pass comes to at stream i, of what is lent to it; the margins are those of the amounts, metered streams up to i left alone.
abbrev pub TieCall : (arcs rows : Lent (List ℕ)) (margins flows : LentMut (List ℕ)) (potentials : Lent (List ℕ)) → ℕ → Type 0
TieCall arcs rows margins flows potentials i =
    TiedAt arcs.entry.now rows.entry.now potentials.entry.now i flows.entry.now flows.exit.now
    × Margined (count_of arcs.entry.now) rows.entry.now flows.exit.now 1 (i + 1) margins.exit.now

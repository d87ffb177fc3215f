-- What moving along remembered streams requires, and what it comes to.
use Rattle.std.specs.Prelude.{◌≡◌, List, ℕ, ◌≤◌, length, take}
use Rattle.num_bytes.specs.Lent.{Lent, LentMut}
use Rattle.solve_def.specs.declared.Route.{Route}
use Rattle.solve_def.specs.Sizes.{most_step}
use Rattle.solve_def.specs.Augment.{augmented}
use Rattle.solve_def.specs.SearchNeeds.{Trail, Roomy}
use Rattle.solve_arcs.specs.Cells.{count_of, margin_cells}
use Rattle.solve_arcs.specs.ArcNeeds.{Laying, Margined, Free}

-- The remembered streams are streams of the arcs, and each has room for the step.
abbrev pub Augmentable : List ℕ → List ℕ → List ℕ → List ℕ → List ℕ → Route → Type 0
Augmentable ls rs ms xs via way =
    Laying ls rs × (way.delta ≤ most_step) × Trail via (count_of ls) way.len × Roomy xs way.len × (length ms ≡ margin_cells)

-- Margins of amounts stay margins of amounts, where none of the remembered streams is left alone.
abbrev pub MarginsMoved : List ℕ → List ℕ → List ℕ → Route → List ℕ → List ℕ → List ℕ → List ℕ → Type 0
MarginsMoved ls rs via way ms xs ms' xs' =
    (skip : ℕ) → Margined (count_of ls) rs xs way.delta skip ms → Free rs skip via way.len → Margined (count_of ls) rs xs' way.delta skip ms'

-- And the amounts are those of the definition, whichever streams the arcs are of.
abbrev pub FlowsMoved : List ℕ → List ℕ → List ℕ → List ℕ → Route → List ℕ → List ℕ → Type 0
FlowsMoved ls rs via ends way xs xs' =
    (w : Laying ls rs) → xs' ≡ augmented (take w.n w.streams) via ends way.delta way.len way.target xs

-- What augmenting comes to, of what is lent to it: margins stay those of the amounts, and the amounts are the definition's.
abbrev pub AugmentCall : (arcs rows : Lent (List ℕ)) (margins flows : LentMut (List ℕ)) (via ends : Lent (List ℕ)) → Route → Type 0
AugmentCall arcs rows margins flows via ends way =
    let ls = arcs.entry.now in
    let rs = rows.entry.now in
    let back = via.entry.now in
    MarginsMoved ls rs back way margins.entry.now flows.entry.now margins.exit.now flows.exit.now
    × FlowsMoved ls rs back ends.entry.now way flows.entry.now flows.exit.now

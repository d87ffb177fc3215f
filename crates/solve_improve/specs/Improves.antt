-- What a phase begins from; what an improvement requires, and what it comes to.
use Rattle.std.specs.Prelude.{◌≡◌, List, ℕ, ◌+◌, ◌≤◌, ◌<◌, get_or, take}
use Rattle.num_bytes.specs.Lent.{Lent, LentMut}
use Rattle.plant_def.specs.declared.Stream.{Stream}
use Rattle.plant_def.specs.Limits.{places}
use Rattle.solve_def.specs.declared.Quest.{Quest}
use Rattle.solve_def.specs.declared.Searched.{Searched}
use Rattle.solve_def.specs.declared.State.{State}
use Rattle.solve_def.specs.Sizes.{net_shift, settled_room}
use Rattle.solve_def.specs.Model.{improved_by, improved_at}
use Rattle.solve_def.specs.SearchNeeds.{Network}
use Rattle.solve_def.specs.SolverNeeds.{Step, Underway}
use Rattle.solve_arcs.specs.ArcNeeds.{Laid, Margined}

-- Streams that arcs and rows are of, and a state in a phase at step d.
pub record Phasable (ls rs : List ℕ) (d : ℕ) (st : State) : Type 0 where
  pub streams : List Stream
  pub n : ℕ
  pub network : Network streams n
  pub laid : Laid streams n ls rs
  pub step : Step d
  pub underway : Underway (take n streams) d settled_room st

-- And its margins.
pub record Improvable (ls rs ms : List ℕ) (d : ℕ) (st : State) : Type 0 where
  pub streams : List Stream
  pub n : ℕ
  pub network : Network streams n
  pub laid : Laid streams n ls rs
  pub step : Step d
  pub underway : Underway (take n streams) d settled_room st
  pub margined : Margined n rs st.flows d 0 ms

-- An improvement can be tried: the place has a step over.
abbrev pub Improves : List ℕ → List ℕ → List ℕ → Quest → State → Type 0
Improves ls rs ms q st = Improvable ls rs ms q.delta st × (q.start < places) × (net_shift + q.delta ≤ get_or st.nets q.start 0)

-- What it comes to, of any streams that arcs and rows are of: what the definition gives, the margins being those of the amounts again.
abbrev pub Improving : List ℕ → List ℕ → List ℕ → Quest → State → Searched → State → List ℕ → Type 0
Improving ls rs ms q st r after margins =
    (w : Improvable ls rs ms q.delta st)
    → (improved_by r.found after r.tree.visited ≡ improved_at (take w.n w.streams) st q.delta q.start)
    × Margined w.n rs after.flows q.delta 0 margins

-- What an improvement comes to, of what is lent to it.
abbrev pub ImproveCall : (arcs rows : Lent (List ℕ)) (margins : LentMut (List ℕ)) (state : LentMut State) → Quest → Searched → Type 0
ImproveCall arcs rows margins state q r =
    Improving arcs.entry.now rows.entry.now margins.entry.now q state.entry.now r state.exit.now margins.exit.now

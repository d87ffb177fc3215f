-- What improvements from a place and a phase come to, of any streams that arcs and rows are of, with the count of the improvements.
use Rattle.std.specs.Prelude.{◌≡◌, false, List, ℕ, ◌-◌, ◌/◌, get_or, take}
use Rattle.num_bytes.specs.Lent.{Lent, LentMut}
use Rattle.plant_def.specs.Limits.{places}
use Rattle.solve_def.specs.Sizes.{net_shift, halvings}
use Rattle.solve_def.specs.declared.Quest.{Quest}
use Rattle.solve_def.specs.declared.State.{State}
use Rattle.solve_def.specs.declared.Tried.{Tried}
use Rattle.solve_def.specs.Model.{ended_by, from_place, phase, phases, finished, no_hint}
use Rattle.solve_def.specs.Made.{made_from, made_to, made_by, made}
use Rattle.solve_arcs.specs.ArcNeeds.{Laying, Margined}
use Rattle.solve_improve.specs.Improves.{Phasable, Improvable}
use Rattle.solve_phases.specs.Finishes.{Finishable}

-- How many improvements are tried from a place: as many as its excess has steps.
abbrev pub steps_at : Quest → State → ℕ
steps_at q st = (get_or st.nets q.start 0 - net_shift) / q.delta

-- From a place: how it ends, how many improvements are made, and the margins of the amounts.
abbrev pub Trying : List ℕ → List ℕ → List ℕ → Quest → State → Tried → State → List ℕ → Type 0
Trying ls rs ms q st r after margins =
    (w : Improvable ls rs ms q.delta st)
    → (ended_by r.full after r.marked ≡ from_place (steps_at q st) (take w.n w.streams) q.delta q.start st)
    × (r.made ≡ made_from (steps_at q st) (take w.n w.streams) q.delta q.start st)
    × Margined w.n rs after.flows q.delta 0 margins

-- A phase at step d: how it ends, how many improvements it makes, and the margins of the amounts.
abbrev pub Phasing : List ℕ → List ℕ → ℕ → State → Tried → State → List ℕ → Type 0
Phasing ls rs d st r after margins =
    (w : Phasable ls rs d st)
    → (ended_by r.full after r.marked ≡ phase (take w.n w.streams) d st)
    × (r.made ≡ made_to places (take w.n w.streams) d st)
    × Margined w.n rs after.flows d 0 margins

-- The phases from no hint, and how many improvements they make. Where no set is full, the margins are those of the amounts.
abbrev pub AllPhases : List ℕ → List ℕ → Tried → State → List ℕ → Type 0
AllPhases ls rs r after margins =
    (w : Laying ls rs)
    → (ended_by r.full after r.marked ≡ phases halvings (take w.n w.streams) no_hint)
    × (r.made ≡ made_by halvings (take w.n w.streams) no_hint)
    × (r.full ≡ false → Margined w.n rs after.flows 1 0 margins)

-- The same from a state that is settled at a hint.
abbrev pub Finishing : List ℕ → List ℕ → State → Tried → State → List ℕ → Type 0
Finishing ls rs st r after margins =
    (w : Finishable ls rs st)
    → (ended_by r.full after r.marked ≡ finished (take w.laying.n w.laying.streams) st)
    × (r.made ≡ made (take w.laying.n w.laying.streams) st)
    × (r.full ≡ false → Margined w.laying.n rs after.flows 1 0 margins)

-- What improvements from a place come to, of what is lent to the call,
abbrev pub TryCall : (arcs rows : Lent (List ℕ)) (margins : LentMut (List ℕ)) (state : LentMut State) → Quest → Tried → Type 0
TryCall arcs rows margins state q r =
    Trying arcs.entry.now rows.entry.now margins.entry.now q state.entry.now r state.exit.now margins.exit.now

-- what a phase comes to,
abbrev pub PhaseCall : (arcs rows : Lent (List ℕ)) (margins : LentMut (List ℕ)) (state : LentMut State) → ℕ → Tried → Type 0
PhaseCall arcs rows margins state d r = Phasing arcs.entry.now rows.entry.now d state.entry.now r state.exit.now margins.exit.now

-- what the phases from no hint come to,
abbrev pub PhasesCall : (arcs rows : Lent (List ℕ)) (margins : LentMut (List ℕ)) (state : LentMut State) → Tried → Type 0
PhasesCall arcs rows margins state r = AllPhases arcs.entry.now rows.entry.now r state.exit.now margins.exit.now

-- and what finishing from a state that is settled at a hint comes to.
abbrev pub FinishCall : (arcs rows : Lent (List ℕ)) (margins : LentMut (List ℕ)) (state : LentMut State) → Tried → Type 0
FinishCall arcs rows margins state r = Finishing arcs.entry.now rows.entry.now state.entry.now r state.exit.now margins.exit.now

-- `solve_improve::improve_from` meets its contract: where the search finds a place, the augmentation and the nets have room.
use Rattle.solve_def.proofs.Turns.{Moving, moving, found_potentials, improved_none, improved_done}
use Rattle.solve_arcs.proofs.Stores.{spare_none}
use Rattle.solve_improve.proofs.Improved.{improve_searching, improve_laying, improve_trail, improve_margined, improved_margined}
use Rattle.solve_def.specs.declared.State.{State}
use Rattle.solve_def.specs.declared.Tree.{Tree}
use Rattle.solve_def.specs.Search.{Grown, grown_by}
use Rattle.solve_improve.specs.Improves.{Improvable}
use lib.ListN.{get_or, take}
use native.Mathlib.Omega.{arith}
use mathlib.Core.Bool.{Bool, true, false, false≢true}
use mathlib.Core.List.{List}
use Prim.Native.Nat.{ℕ}
use mathlib.Core.Path.{◌≡◌, sym}
use Rattle.solve_improve.proofs.improve_from.Goals as goal
use Rattle.solve_improve.proofs.improve_from.Goals.{Else-not-h, Start}

-- The state at the start, and streams that the arcs are of.
abbrev held : Start → State
held st = st.args.state.now

abbrev Of : Start → Type 0
Of st = Improvable st.args.arcs.now st.args.rows.now st.args.margins.now st.args.q.delta (held st)

-- What the search came to, where it found a place.
told : {ps : List ℕ} {g : Grown} (b : Bool) (t : Tree) → b ≡ true → grown_by b t ps ≡ g → grown_by true t ps ≡ g
told true t e q = q
told false t e q = absurd (false≢true e)

key : (c : Else-not-h) (w : Of c.before.before.before.before) → Moving w.n (held c.before.before.before.before) c.args.q.start c.args.q.delta c.search-h.result.tree
key c w =
    moving w.streams w.n w.network _ c.args.q.start c.args.q.delta w.step w.underway c.requires.1 c.requires.2 _ _
    (told _ _ c.if-not-h.false (c.search-h.ensures (improve_searching _ _ _ _ _ w)))

pub search-h-requires : goal.search-h-requires
search-h-requires c =
    (improve_searching _ _ _ _ _ c.requires.0, c.requires.1, c.requires.0.underway.sound.per_place)

pub returns-then-not-h : goal.returns-then-not-h
returns-then-not-h c = λ w.
    let f = c.if-not-h.true in
    let q =
    improved_none (take w.n w.streams) (held (goal.at.returns-then-not-h c).Start) c.args.q.delta c.args.q.start _ _ _
    (c.search-h.ensures (improve_searching _ _ _ _ _ w)) f in
    (rw q.0 (sym q.1), w.margined)

pub overflow_sub-target : goal.overflow_sub-target
overflow_sub-target c = (key (goal.at.overflow_sub-target c).Else-not-h c.requires.0).some

pub bounds-h-h : goal.bounds-h-h
bounds-h-h c = omega (arith, (key (goal.at.bounds-h-h c).Else-not-h c.requires.0).short)

pub augment-requires : goal.augment-requires
augment-requires c =
    let w = c.requires.0 in
    (improve_laying _ _ _ _ _ w, w.step.1, improve_trail _ _ _ _ _ w _ _ (key (goal.at.augment-requires c).Else-not-h w).trail, (key (goal.at.augment-requires c).Else-not-h w).roomy, w.margined.long)

pub overflow_cast-target : goal.overflow_cast-target
overflow_cast-target c =
    omega (arith, (key (goal.at.overflow_cast-target c).Else-not-h c.requires.0).shiftable.end)

pub shift_nets-requires : goal.shift_nets-requires
shift_nets-requires c =
    (key (goal.at.shift_nets-requires c).Else-not-h c.requires.0).shiftable

pub refloor-requires : goal.refloor-requires
refloor-requires c =
    let w = c.requires.0 in
    let r =
    found_potentials w.streams w.n w.network _ c.args.q.start c.args.q.delta w.step w.underway c.requires.1 c.requires.2 _ _
    (told _ _ c.if-not-h.false (c.search-h.ensures (improve_searching _ _ _ _ _ w))) in
    (r.1, r.0)

pub returns : goal.returns
returns c = λ w.
    let done =
    improved_done (take w.n w.streams) (held (goal.at.returns c).Start) c.args.q.delta c.args.q.start _ _ _
    (c.search-h.ensures (improve_searching _ _ _ _ _ w)) c.if-not-h.false in
    let margined =
    c.augment.ensures.0 0 (improve_margined _ _ _ _ _ w) (λ j l. spare_none c.args.rows.now (get_or c.search-h.result.tree.via j 0)) in (
      rw (c.refloor.ensures, c.shift_nets.ensures, c.augment.ensures.1 (improve_laying _ _ _ _ _ w)) (sym done),
      improved_margined _ _ _ _ _ w _ _ margined,
    )

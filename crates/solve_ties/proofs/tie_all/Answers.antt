-- `solve_ties::tie_all` meets its contract: the first i streams are passed, and left alone.
use mathlib.Core.Path.{◌≡◌, sym, ◌∙◌, ap, subst}
use mathlib.Core.Bool.{true, false}
use mathlib.Core.List.{List}
use Prim.Native.Nat.{ℕ, ◌+◌, ◌<◌}
use native.Mathlib.Omega.{arith}
use lib.ListN.{take}
use Rattle.solve_def.specs.Model.{tied_at, ties_to}
use Rattle.solve_def.specs.SolverNeeds.{Even}
use Rattle.solve_def.proofs.TieTurns.{tying_even, ties_next, ties_none}
use Rattle.solve_arcs.specs.Cells.{count_of}
use Rattle.solve_arcs.proofs.Finding.{ways_of}
use Rattle.solve_ties.specs.Evens.{Tieable, Tying}
use Rattle.solve_ties.proofs.Evened.{tie_searching, falls, stays}
use Rattle.solve_ties.proofs.tie_all.Goals as goal
use Rattle.solve_ties.proofs.tie_all.Goals.{then-falls, else-falls}
use Rattle.solve_ties.proofs.tie_all.Goals.{After-can_fall-falls, In-loop-i, Start}

abbrev Of : Start → Type 0
Of st = Tieable st.args.arcs.now st.args.rows.now st.args.potentials.now 0 st.args.flows.now

counted : (c : In-loop-i) → c.loop-i.i < count_of c.args.arcs.now
counted c = rw (← c.count_of-n.ensures) c.loop-i-test.true

below : (c : In-loop-i) (w : Of c.before.before.before) → c.loop-i.i < w.n
below c w = rw (← w.laid.along.counted) (counted c)

-- The flow before stream i is passed.
abbrev able : (c : In-loop-i) → Of c.before.before.before
    → let a = c.args in
    let l = c.loop-i in
    Tieable a.arcs.now a.rows.now a.potentials.now l.i l.flows
able c w = record {
  streams = w.streams;
  n = w.n;
  network = w.network;
  laid = w.laid;
  potentials = w.potentials;
  even =
      subst (λ (xs : List ℕ). Even (take w.n w.streams) c.args.potentials.now c.loop-i.i xs) (sym (c.loop-i.invariant.0 w))
      (tying_even w.streams w.n w.network _ _ w.even c.loop-i.i (omega (arith, below c w)));
}

pub loop-i-init : goal.loop-i-init
loop-i-init c = (λ w. sym (ties_none _ _ _), c.requires.1)

pub can_fall-falls-requires : goal.can_fall-falls-requires
can_fall-falls-requires c =
    let v = c.requires.0 in
    let s = tie_searching _ _ _ _ _ _ _ (able c v) (omega (arith, below c v)) c.loop-i.invariant.1 in
    (ways_of _ _ _ _ _ _ _ _ _ s.laid s.margined s.walkable, counted c)

pub spare-requires : goal.spare-requires
spare-requires c =
    let v = c.requires.0 in
    (omega (arith, below (goal.at.spare-requires c).In-loop-i v, v.network.within.few_streams), c.loop-i.invariant.1.long)

-- Stream i can fall at no cost.
abbrev tying : (c : After-can_fall-falls) → c.can_fall-falls.result ≡ true → Of c.before.before.before.before
    → let a = c.args in
    let l = c.loop-i in
    Tying a.arcs.now a.rows.now a.potentials.now l.i l.flows
tying c e w =
    let s = tie_searching _ _ _ _ _ _ _ (able c.before w) (omega (arith, below c.before w)) c.loop-i.invariant.1 in
    record {
      tieable = able c.before w;
      below = below c.before w;
      falls = falls w.streams w.n w.network _ w.laid.rowed _ _ (below c.before w) _ _ _ w.laid s.margined s.walkable (sym c.can_fall-falls.ensures ∙ e);
    }

pub tie_at-requires : goal.tie_at-requires
tie_at-requires c =
    (tying (goal.at.tie_at-requires c).After-can_fall-falls c.if-falls.true c.requires.0, c.spare.ensures _ _ c.loop-i.invariant.1)

-- What one stream more comes to.
after : (c : In-loop-i) (w : Of c.before.before.before)
    → let ss = take w.n w.streams in
    let a = c.args in
    let l = c.loop-i in
    tied_at ss a.potentials.now l.i l.flows ≡ ties_to ss a.potentials.now (l.i + 1) a.flows.now
after c w =
    let ss = take w.n w.streams in
    let ps = c.args.potentials.now in
    let i = c.loop-i.i in
    ap (λ (xs : List ℕ). tied_at ss ps i xs) (c.loop-i.invariant.0 w) ∙ sym (ties_next ss ps c.args.flows.now i)

unchanged : (c : After-can_fall-falls) (w : Of c.before.before.before.before) → c.can_fall-falls.result ≡ false
    → let l = c.loop-i in
    tied_at (take w.n w.streams) c.args.potentials.now l.i l.flows ≡ l.flows
unchanged c w e =
    let s = tie_searching _ _ _ _ _ _ _ (able c.before w) (omega (arith, below c.before w)) c.loop-i.invariant.1 in
    stays w.streams w.n w.network _ w.laid.rowed _ _ (below c.before w) _ _ _ w.laid s.margined s.walkable (sym c.can_fall-falls.ensures ∙ e)

pub loop-i-preserved : goal.loop-i-preserved
loop-i-preserved c =
    let spared = c.spare.ensures _ _ c.loop-i.invariant.1 in (
      λ w. elim c.if-falls.branch [
        | then-falls o ↦ o.flows-is ∙ o.tie_at.ensures.0 (tying (goal.at.loop-i-preserved c).After-can_fall-falls o.if-falls.true w) ∙ after (goal.at.loop-i-preserved c).In-loop-i w
        | else-falls o ↦ o.flows-is ∙ sym (unchanged (goal.at.loop-i-preserved c).After-can_fall-falls w o.if-falls.false) ∙ after (goal.at.loop-i-preserved c).In-loop-i w
      ],
      elim c.if-falls.branch [ then-falls o ↦ rw (o.margins-is, o.flows-is) o.tie_at.ensures.1 | else-falls o ↦ rw (o.margins-is, o.flows-is) spared ],
    )

pub returns : goal.returns
returns c = λ w.
    let e : c.loop-i.i ≡ w.n = omega (arith, c.count_of-n.ensures, w.laid.along.counted, c.loop-i-test.false) in
    rw e at (c.loop-i.invariant.0 w)

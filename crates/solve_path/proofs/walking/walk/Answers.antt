-- `solve_path::walking::walk` meets its contract: with `left` steps to go the walk comes to what it comes to from the start.
use native.Mathlib.Omega.{arith}
use Rattle.solve_path.proofs.Going.{starts, ends, stops, hits, goes_on}
use Rattle.solve_path.proofs.walking.walk.Goals as goal

pub loop-left-init : goal.loop-left-init
loop-left-init c = rw (c.first-at.ensures, c.root-t.ensures) (starts _ _ _ _ _ c.requires.1)

pub step-at-requires : goal.step-at-requires
step-at-requires c =
    let g = c.loop-left.invariant in
    (c.requires.0, g.walks.place, g.walks.short, g.long, (_, c.loop-left.t.visited, g.coded))

pub add-requires : goal.add-requires
add-requires c =
    let g = c.loop-left.invariant in
    (omega (arith, g.walks.rounds), omega (arith, c.step-at.ensures.2, c.if-at-eq-PLACES.false))

pub returns-then-at-eq-PLACES : goal.returns-then-at-eq-PLACES
returns-then-at-eq-PLACES c =
    let g = c.loop-left.invariant in
    stops _ _ _ _ _ _ _ _ _ _ g c.loop-left-test.true _ _ (c.step-at.ensures.1 _ _ g.visits g.coded) c.if-at-eq-PLACES.true

pub returns-then-nets-at-lt-NET_SHIFT : goal.returns-then-nets-at-lt-NET_SHIFT
returns-then-nets-at-lt-NET_SHIFT c =
    let g = c.loop-left.invariant in
    rw c.add.ensures (hits _ _ _ _ _ _ _ _ _ _ g c.loop-left-test.true _ _ (c.step-at.ensures.1 _ _ g.visits g.coded) c.if-at-eq-PLACES.false c.if-nets-at-lt-NET_SHIFT.true)

pub loop-left-preserved : goal.loop-left-preserved
loop-left-preserved c =
    let g = c.loop-left.invariant in
    rw c.add.ensures (goes_on _ _ _ _ _ _ _ _ _ _ g c.loop-left-test.true _ _ (c.step-at.ensures.1 _ _ g.visits g.coded) c.if-at-eq-PLACES.false c.step-at.ensures.0 c.if-nets-at-lt-NET_SHIFT.false)

pub returns : goal.returns
returns c = ends _ _ _ _ _ _ _ _ _ _ c.loop-left.invariant c.loop-left-test.false

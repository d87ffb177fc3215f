-- `solve_ties::tie_at` meets its contract: by whether a way leads round; it leaves room for the augmentation.
use Rattle.solve_def.proofs.TieTurns.{tied_cut, tied_round, RoundAugmentable, round_augmentable}
use Rattle.plant_def.specs.Limits.{max_streams, places}
use Rattle.solve_arcs.specs.Cells.{count_of}
use Rattle.solve_arcs.proofs.Along.{starts_at, ends_at}
use Rattle.solve_arcs.proofs.Stores.{margined_own, spare_own}
use Rattle.solve_ties.proofs.Evened.{tie_searching, tie_laying, tie_trail, way_free, weighs_some}
use Rattle.solve_ties.specs.Evens.{Tying}
use Rattle.plant_def.specs.declared.Stream.{Stream}
use Rattle.solve_def.specs.Search.{Grown, root_at, grown_by, tight_path}
use Rattle.solve_def.specs.Augment.{augmented}
use Rattle.solve_def.specs.Sizes.{search_rounds}
use Rattle.plant_def.specs.Plants.{no_stream}
use lib.ListN.{get_or, take}
use native.Mathlib.Numerals.{add-one}
use native.Mathlib.Omega.{arith}
use Prim.Native.Nat.{ℕ, suc, ◌+◌, ◌<◌}
use mathlib.Core.Path.{◌≡◌, sym, ◌∙◌, ap}
use Rattle.solve_ties.proofs.tie_at.Goals as goal
use Rattle.solve_ties.proofs.tie_at.Goals.{After-augment, After-end_at-u, After-end_at-v, After-tight_path-h, Else-not-h, Start}

abbrev Of : Start → Type 0
Of st = Tying st.args.arcs.now st.args.rows.now st.args.potentials.now st.args.i st.args.flows.now

used : (st : Start) (w : Of st) → st.args.i < count_of st.args.arcs.now
used st w = rw w.tieable.laid.along.counted w.below

from_is : (c : After-end_at-u) (w : Of c.before) → c.end_at-u.result ≡ (get_or w.tieable.streams c.args.i no_stream).from
from_is c w = c.end_at-u.ensures ∙ sym (starts_at _ _ (used c.before w)) ∙ w.tieable.laid.along.starts _ w.below

to_is : (c : After-end_at-v) (w : Of c.before.before) → c.end_at-v.result ≡ (get_or w.tieable.streams c.args.i no_stream).to
to_is c w = c.end_at-v.ensures ∙ sym (ends_at _ _ (used c.before.before w)) ∙ w.tieable.laid.along.ends _ w.below

start_in : (c : After-end_at-u) → c.end_at-u.result < places
start_in c = let w = c.requires.0 in rw (from_is c w) (omega (arith, (w.tieable.network.within.each _ w.below).from_in))

end_in : (c : After-end_at-v) → c.end_at-v.result < places
end_in c = let w = c.requires.0 in rw (to_is c w) (omega (arith, (w.tieable.network.within.each _ w.below).to_in))

low : (st : Start) → st.args.i < max_streams
low st = let w = st.requires.0 in omega (arith, w.below, w.tieable.network.within.few_streams)

-- The search round stream i, from place u to place v past the streams before number k.
abbrev round : (st : Start) → Of st → ℕ → ℕ → ℕ → Grown
round st w u v k =
    tight_path (take w.tieable.n w.tieable.streams) w.tieable.n st.args.flows.now st.args.potentials.now v k search_rounds (root_at u)

-- Stream i.
abbrev own : (st : Start) → Of st → Stream
own st w = get_or w.tieable.streams st.args.i no_stream

-- What the call of tight_path says.
told : (c : After-tight_path-h) (w : Of c.before.before.before)
    → grown_by c.tight_path-h.result.found c.tight_path-h.result.tree c.args.potentials.now
    ≡ round c.before.before.before w (own c.before.before.before w).from (own c.before.before.before w).to (suc c.args.i)
told c w =
    c.tight_path-h.ensures (c.args.i + 1) (tie_searching _ _ _ _ _ _ _ w.tieable (omega (arith, w.below)) c.requires.1)
    ∙ ap (λ (y : ℕ). round c.before.before.before w c.end_at-u.result y (c.args.i + 1)) (to_is c.before w)
    ∙ ap (λ (x : ℕ). round c.before.before.before w x (own c.before.before.before w).to (c.args.i + 1)) (from_is c.before.before w)
    ∙ ap (λ (k : ℕ). round c.before.before.before w (own c.before.before.before w).from (own c.before.before.before w).to k) (add-one c.args.i)

-- A way round was found: what the augmentation needs.
ready : (c : Else-not-h) (w : Of c.before.before.before.before)
    → let a = c.args in
    let t = w.tieable in
    RoundAugmentable t.streams t.n t.network a.potentials.now a.i w.below a.flows.now c.tight_path-h.result.tree
ready c w =
    round_augmentable w.tieable.streams w.tieable.n w.tieable.network _ _ w.below _ w.tieable.even _ w.falls.metered w.falls.tight (told c.before w) c.if-not-h.false

-- The amounts after the augmentation.
moved_are : (c : After-augment) (w : Of c.before.before.before.before.before.before.before.before.before)
    → let t = c.tight_path-h.result.tree in
    c.augment.new.flows ≡ augmented (take w.tieable.n w.tieable.streams) t.via t.ends 1 t.len (own c.before.before.before.before.before.before.before.before.before w).to c.args.flows.now
moved_are c w =
    let t = c.tight_path-h.result.tree in
    c.augment.ensures.1 (tie_laying _ _ _ _ _ w.tieable)
    ∙ ap (λ (v : ℕ). augmented (take w.tieable.n w.tieable.streams) t.via t.ends 1 t.len v c.args.flows.now) (to_is c.before.before.before.before.before.before.before w)

pub tight_path-h-requires : goal.tight_path-h-requires
tight_path-h-requires c =
    let w = c.requires.0 in
    ((c.args.i + 1, tie_searching _ _ _ _ _ _ _ w.tieable (omega (arith, w.below)) c.requires.1), start_in (goal.at.tight_path-h-requires c).After-end_at-u, end_in c)

pub returns-then-not-h : goal.returns-then-not-h
returns-then-not-h c =
    (λ w. sym (tied_cut w.tieable.streams w.tieable.n w.tieable.network _ _ w.below _ _ w.falls.metered w.falls.tight (told (goal.at.returns-then-not-h c).After-tight_path-h w) c.if-not-h.true), c.requires.1)

pub overflow_cast-v : goal.overflow_cast-v
overflow_cast-v c =
    omega (arith, end_in (goal.at.overflow_cast-v c).After-end_at-v)

pub augment-requires : goal.augment-requires
augment-requires c =
    let w = c.requires.0 in
    let r = ready (goal.at.augment-requires c).Else-not-h w in
    (tie_laying _ _ _ _ _ w.tieable, omega arith, tie_trail _ _ _ _ _ w.tieable _ _ r.trail, r.roomy, c.requires.1.long)

pub offset_bounds-flows-i : goal.offset_bounds-flows-i
offset_bounds-flows-i c = omega (arith, low (goal.at.offset_bounds-flows-i c).Start)

pub bounds-flows-i : goal.bounds-flows-i
bounds-flows-i c = low (goal.at.bounds-flows-i c).Start

pub overflow_sub-flows : goal.overflow_sub-flows
overflow_sub-flows c =
    let w = c.requires.0 in
    rw (moved_are (goal.at.overflow_sub-flows c).After-augment w) (ready (goal.at.overflow_sub-flows c).Else-not-h w).some

pub bounds-flows-i-2 : goal.bounds-flows-i-2
bounds-flows-i-2 c = low (goal.at.bounds-flows-i-2 c).Start

pub returns : goal.returns
returns c =
    let v = c.requires.0 in
    let n = v.tieable in
    let rs = c.args.rows.now in
    let i = c.args.i in
    let hit = c.if-not-h.false in
    let free = way_free n.streams n.n n.network rs n.laid.rowed _ i v.below _ n.even _ (told (goal.at.returns c).After-tight_path-h v) hit in (
      λ w. rw (moved_are (goal.at.returns c).After-augment w)
          (sym (tied_round w.tieable.streams w.tieable.n w.tieable.network _ _ w.below _ _ w.falls.metered w.falls.tight (told (goal.at.returns c).After-tight_path-h w) hit)),
      margined_own rs 1 i _ (low (goal.at.returns c).Start) _ (i + 1) _ _
          (spare_own rs i (weighs_some n.streams n.n n.network rs n.laid.rowed i v.below v.falls.metered))
          (c.augment.ensures.0 (i + 1) c.requires.1 free),
    )

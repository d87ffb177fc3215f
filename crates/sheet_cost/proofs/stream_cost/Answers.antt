-- Weight times the size of the correction squared, as it is written.
use borrow.Author.Rules.{rules}
use mathlib.Core.Path.{◌≡◌, ap, ◌∙◌}
use lib.IntN.{ℤ, nat_abs, ◌-ℤ◌}
use mir.Syntax.{w32, w64}
use mir.Val.{SFits, to_z, of_z}
use mir.ValLaws.{to_z-of_z}
use borrow.Author.Tests.{not-true, not-false}
use Rattle.solve_def.proofs.Weights.{wide}
use Rattle.sheet_cost.proofs.Costing.{unmetered_cost, metered_cost, correction_fits, correction_is}
use Rattle.sheet_cost.proofs.stream_cost.Goals as goal
use Rattle.sheet_cost.proofs.stream_cost.Goals.{Start}

-- The reading fits 32 bits.
reads : (c : Start) → SFits w32 c.args.s.reading
reads c = search rules

pub returns-then-not-s : goal.returns-then-not-s
returns-then-not-s c = unmetered_cost c.args.s c.args.flow (not-true c.args.s.metered c.if-not-s.true)

pub overflow_cast-s : goal.overflow_cast-s
overflow_cast-s c =
    let z = c.args.s.reading in
    let f = reads (goal.at.overflow_cast-s c).Start in
    rw (to_z-of_z w32 z f) (wide z f)

pub overflow_sub-flow : goal.overflow_sub-flow
overflow_sub-flow c =
    let s = c.args.s in
    let x = c.args.flow in
    let f = reads (goal.at.overflow_sub-flow c).Start in
    rw (correction_is x s.reading c.ranges.flow f) (correction_fits x s.reading c.requires.1 f)

pub weighed_square-requires : goal.weighed_square-requires
weighed_square-requires c =
    let m = not-false c.args.s.metered c.if-not-s.false in
    (c.requires.0.light m, λ h. c.requires.0.weighed m)

pub returns : goal.returns
returns c =
    let s = c.args.s in
    let x = c.args.flow in
    let m = not-false s.metered c.if-not-s.false in
    let d = c.unsigned_abs-d in
    let q = correction_is x s.reading c.ranges.flow (reads (goal.at.returns c).Start) in
    let f = correction_fits x s.reading c.requires.1 (reads (goal.at.returns c).Start) in
    let e : d.result ≡ nat_abs (x -ℤ s.reading) = d.ensures.value ∙ ap (λ (y : ℤ). nat_abs (to_z w64 (of_z w64 y))) q ∙ ap nat_abs (to_z-of_z w64 _ f) in
    c.weighed_square.ensures ∙ metered_cost s x m d.result e

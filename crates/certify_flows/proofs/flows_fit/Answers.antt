-- After i turns the first i flows fit.
use mathlib.Core.Path.{◌≡◌, sym, ◌∙◌, ap₂}
use lib.IntN.{pos}
use native.Mathlib.Omega.{arith}
use Prim.Native.Nat.{◌<◌}
use lib.ListN.{length, get_or}
use mir.Syntax.{w64}
use mir.Val.{SFits}
use mir.ValLaws.{to_z-of_z}
use borrow.Author.Count.{below_none, below_more}
use Rattle.foreign_def.specs.Test.{flow_fits}
use Rattle.foreign_flows.proofs.Checking.{one_fails, none_fails}
use Rattle.certify_def.specs.Number.{max_wide_flow}
use Rattle.certify_def.specs.Test.{wide_at, flows_fit}
use Rattle.certify_flows.proofs.Turning as T
use borrow.Author.Rules.{rules}
use Rattle.certify_flows.proofs.flows_fit.Invariants.{test}
use Rattle.certify_flows.proofs.flows_fit.Goals as goal
use Rattle.certify_flows.proofs.flows_fit.Goals.{After-difference_at-c, After-flow_fits, In-loop-i}

-- The stream is in the array.
listed : (c : In-loop-i) → c.loop-i.i < 96
listed c = omega (arith, c.requires.1.few_streams, c.loop-i-test.true)

pub offset_bounds-streams-i : goal.offset_bounds-streams-i
offset_bounds-streams-i c = let t = listed c in record { fits = omega arith }

pub bounds-streams-i : goal.bounds-streams-i
bounds-streams-i c = listed c

pub difference_at-c-requires : goal.difference_at-c-requires
difference_at-c-requires c =
    let e = T.ends_numbered c.requires.0 c.args.count (wide_at c.args.streams) c.args.flow.now c.args.numbers.now c.requires.1 c.loop-i.i c.loop-i-test.true in
    record { from_in_bounds = e.0; from_bound = e.1 }

-- The flow is in the slice.
flowing : (c : After-difference_at-c) → c.loop-i.i < length c.args.flow.now
flowing c = omega (arith, c.requires.1.flow_long, c.loop-i-test.true)

pub bounds-flow-i : goal.bounds-flow-i
bounds-flow-i c = flowing c

pub flow_fits-requires : goal.flow_fits-requires
flow_fits-requires c =
    let l = c.loop-i-test.true in
    let f : SFits w64 (get_or c.args.flow.now c.loop-i.i (pos 0)) = search rules in
    let g : SFits w64 c.difference_at-c.result = search rules in (
      T.wide_here _ _ (wide_at c.args.streams) _ _ c.requires.1 c.loop-i.i l,
      rw (to_z-of_z w64 _ f) (T.small_at c.args.count c.args.flow.now max_wide_flow c.requires.1.flow_small c.loop-i.i l),
      rw (to_z-of_z w64 c.difference_at-c.result g) c.difference_at-c.ensures.1,
    )

-- What the test says of the stream.
tested : (c : After-flow_fits)
    → let a = c.args in
    c.flow_fits.result ≡ test a.streams a.flow.now a.numbers.now c.loop-i.i
tested c =
    let a = c.args in
    let f : SFits w64 (get_or a.flow.now c.loop-i.i (pos 0)) = search rules in
    let g : SFits w64 c.difference_at-c.result = search rules in
    c.flow_fits.ensures ∙ ap₂ (flow_fits (wide_at a.streams c.loop-i.i)) (to_z-of_z w64 _ f) (to_z-of_z w64 _ g ∙ c.difference_at-c.ensures.0)

pub returns-then-not-flow_fits : goal.returns-then-not-flow_fits
unfolding flows_fit
returns-then-not-flow_fits c =
    let a = c.args in
    one_fails a.count (test a.streams a.flow.now a.numbers.now) c.loop-i.i c.loop-i-test.true
    (sym (tested (goal.at.returns-then-not-flow_fits c).After-flow_fits) ∙ c.if-not-flow_fits.true)

pub loop-i-preserved : goal.loop-i-preserved
loop-i-preserved c = below_more _ _ c.loop-i.invariant (sym (tested (goal.at.loop-i-preserved c).After-flow_fits) ∙ c.if-not-flow_fits.false)

pub returns : goal.returns
unfolding flows_fit
returns c =
    let a = c.args in
    none_fails a.count (test a.streams a.flow.now a.numbers.now) c.loop-i.i (omega arith) c.loop-i.invariant

pub loop-i-init : goal.loop-i-init
loop-i-init c = below_none _

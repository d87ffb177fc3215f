-- After i turns the first i numbers are within the limit.
use native.Mathlib.Omega.{arith}
use mathlib.Core.Path.{◌≡◌, sym, ◌∙◌, ap}
use lib.IntN.{ℤ, pos, nat_abs}
use Prim.Native.Nat.{◌<◌}
use lib.Dec.{leb}
use lib.ListN.{get_or, take, length-take}
use mir.Syntax.{w64}
use mir.Val.{SFits}
use mir.ValLaws.{to_z-of_z}
use borrow.Author.Count.{below_none, below_more}
use Rattle.std.proofs.lemmas.List.{get_or-take}
use Rattle.foreign_flows.proofs.Checking.{one_fails, none_fails}
use borrow.Author.Rules.{rules}
use Rattle.certify_flows.proofs.all_small.Invariants.{test}
use Rattle.certify_flows.proofs.all_small.Goals as goal
use Rattle.certify_flows.proofs.all_small.Goals.{After-is_small, In-loop-z}

within : (c : In-loop-z) → c.loop-z.z-index < c.args.count
within c = omega (arith, length-take c.args.count c.args.zs.now, c.loop-z-test.true)

-- What the test says of the number.
tested : (c : After-is_small)
    → let a = c.args in
    c.loop-z.z-index < a.count → c.is_small.result ≡ test a.zs.now a.limit c.loop-z.z-index
tested c l =
    let a = c.args in
    let f : SFits w64 (get_or (take a.count a.zs.now) c.loop-z.z-index (pos 0)) = search rules in
    c.is_small.ensures ∙ ap (λ (y : ℤ). leb (nat_abs y) a.limit) (to_z-of_z w64 _ f ∙ get_or-take a.count a.zs.now c.loop-z.z-index (pos 0) l)

pub returns-then-not-is_small : goal.returns-then-not-is_small
returns-then-not-is_small c =
    let a = c.args in
    let l = within (goal.at.returns-then-not-is_small c).In-loop-z in
    one_fails a.count (test a.zs.now a.limit) c.loop-z.z-index l
    (sym (tested (goal.at.returns-then-not-is_small c).After-is_small l) ∙ c.if-not-is_small.true)

pub loop-z-preserved : goal.loop-z-preserved
loop-z-preserved c =
    let l = within (goal.at.loop-z-preserved c).In-loop-z in
    below_more _ _ c.loop-z.invariant (sym (tested (goal.at.loop-z-preserved c).After-is_small l) ∙ c.if-not-is_small.false)

pub returns : goal.returns
returns c =
    let a = c.args in
    none_fails a.count (test a.zs.now a.limit) c.loop-z.z-index (omega (arith, length-take a.count a.zs.now, c.loop-z-test.false)) c.loop-z.invariant

pub loop-z-init : goal.loop-z-init
loop-z-init c = below_none _

-- After i turns the net is that by the first i streams.
use mathlib.Core.Path.{◌≡◌, ◌∙◌, ap}
use lib.IntN.{pos}
use native.Mathlib.Omega.{arith}
use Prim.Native.Nat.{◌<◌}
use lib.ListN.{get_or, length}
use mir.Syntax.{w64}
use mir.Val.{SFits, to_z}
use mir.ValLaws.{to_z-of_z}
use Rattle.flow_def.specs.Flows.{amount_at}
use Rattle.flow_def.specs.Nets.{brought}
use Rattle.certify_def.specs.Number.{max_wide_flow}
use Rattle.certify_def.specs.Test.{wide_at, net_to}
use Rattle.certify_flows.proofs.Turning as T
use borrow.Author.Rules.{rules}
use Rattle.certify_flows.proofs.net_of.Goals as goal
use Rattle.certify_flows.proofs.net_of.Goals.{After-brought_to-b, In-loop-i}

pub brought_to-b-requires : goal.brought_to-b-requires
brought_to-b-requires c =
    let f : SFits w64 (get_or c.args.flow.now c.loop-i.i (pos 0)) = search rules in
    rw (to_z-of_z w64 _ f) (T.small_at (length c.args.streams.now) c.args.flow.now max_wide_flow c.requires.2 c.loop-i.i c.loop-i-test.true)

-- What the stream brings.
brings : (c : After-brought_to-b)
    → let a = c.args in
    c.brought_to-b.result ≡ brought a.u (wide_at a.streams.now c.loop-i.i) (amount_at a.flow.now c.loop-i.i)
brings c =
    let a = c.args in
    let f : SFits w64 (get_or a.flow.now c.loop-i.i (pos 0)) = search rules in
    c.brought_to-b.ensures.0 ∙ ap (brought a.u (wide_at a.streams.now c.loop-i.i)) (to_z-of_z w64 _ f)

listed : (c : In-loop-i) → c.loop-i.i < 96
listed c = omega (arith, c.requires.0, c.loop-i-test.true)

pub overflow_add-net : goal.overflow_add-net
overflow_add-net c =
    let at = c.loop-i in
    let a = c.args in
    let g : SFits w64 c.brought_to-b.result = search rules in
    T.netted_fits (wide_at a.streams.now) (amount_at a.flow.now) a.u (to_z w64 at.net-bits) at.i at.invariant c.brought_to-b.result (listed (goal.at.overflow_add-net c).In-loop-i) g (brings c)
    c.brought_to-b.ensures.1

pub loop-i-preserved : goal.loop-i-preserved
loop-i-preserved c =
    let at = c.loop-i in
    let a = c.args in
    let g : SFits w64 c.brought_to-b.result = search rules in
    T.netted_more (wide_at a.streams.now) (amount_at a.flow.now) a.u (to_z w64 at.net-bits) at.i at.invariant c.brought_to-b.result (listed (goal.at.loop-i-preserved c).In-loop-i) g (brings c)
    c.brought_to-b.ensures.1

pub returns : goal.returns
returns c =
    let at = c.loop-i in
    let a = c.args in
    let e : at.i ≡ length a.streams.now = omega arith in
    at.invariant.is ∙ ap (net_to (wide_at a.streams.now) (amount_at a.flow.now) a.u) e

pub loop-i-init : goal.loop-i-init
loop-i-init c = T.netted_none _ _ _

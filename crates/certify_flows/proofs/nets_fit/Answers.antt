-- After u turns the nets of the first u units are 0.
use native.Mathlib.Omega.{arith}
use mathlib.Core.Path.{◌≡◌, sym, ◌∙◌, ap}
use native.Mathlib.Numerals.{add-one}
use Prim.Native.Nat.{ℕ, suc, ◌+◌, ◌≤◌}
use mathlib.Core.List.{List}
use lib.ListN.{length, take, length-take}
use Rattle.std.proofs.lemmas.List.{get_or-take}
use Rattle.num_bytes.proofs.Sums.{sum_same}
use Rattle.flow_def.specs.Nets.{brought}
use Rattle.certify_def.specs.declared.WideStream.{WideStream}
use mir.Syntax.{w64}
use mir.Val.{SFits, of_z}
use borrow.Author.Count.{below_none, below_more}
use borrow.Author.Tests.{eq-eqb, ne_eqb}
use Rattle.num_bytes.proofs.Integers.{size_none}
use Rattle.flow_def.specs.Flows.{amount_at}
use Rattle.flow_def.proofs.Certified.{every_off}
use Rattle.foreign_flows.proofs.Checking.{none_fails}
use Rattle.certify_def.specs.Test.{plainly, no_wide, wide_at, net_to, nets_fit}
use Rattle.certify_flows.proofs.Turning as T
use borrow.Author.Rules.{rules}
use Rattle.certify_flows.proofs.nets_fit.Invariants.{test}
use Rattle.certify_flows.proofs.nets_fit.Goals as goal
use Rattle.certify_flows.proofs.nets_fit.Goals.{After-net_of}

-- The first n of enough streams are n.
all_taken : (n : ℕ) (ss : List WideStream) → n ≤ length ss → length (take n ss) ≡ n
all_taken n ss h = omega (arith, length-take n ss)

-- The net of the unit.
net_is : (c : After-net_of)
    → let a = c.args in
    c.net_of.result ≡ net_to (wide_at a.streams) (amount_at a.flow.now) (suc c.loop-u.u) a.count
net_is c =
    let a = c.args in
    let u = c.loop-u.u in
    c.net_of.ensures
    ∙ ap (λ (n : ℕ). net_to (wide_at (take a.count a.streams)) (amount_at a.flow.now) (u + 1) n) (all_taken a.count a.streams (omega (arith, c.requires.0)))
    ∙ sum_same a.count _ _ (λ k l. ap (λ (s : WideStream). brought (u + 1) (plainly s) (amount_at a.flow.now k)) (get_or-take a.count a.streams k no_wide l))
    ∙ ap (λ (v : ℕ). net_to (wide_at a.streams) (amount_at a.flow.now) v a.count) (add-one u)

pub net_of-requires : goal.net_of-requires
net_of-requires c =
    let a = c.args in
    let e = all_taken a.count a.streams (omega (arith, c.requires.0)) in
    (omega (arith, e, c.requires.0), omega (arith, e, c.requires.1), rw e c.requires.2)

pub returns-then-net_of-ne0 : goal.returns-then-net_of-ne0
unfolding nets_fit
returns-then-net_of-ne0 c =
    let a = c.args in
    sym (every_off a.units (test a.streams a.flow.now a.count) c.loop-u.u c.loop-u-test.true
    (ne_eqb _ 0 (λ q. c.if-net_of-ne0.true (ap (of_z w64) (net_is (goal.at.returns-then-net_of-ne0 c).After-net_of ∙ size_none _ q)))))

pub loop-u-preserved : goal.loop-u-preserved
loop-u-preserved c =
    let f : SFits w64 c.net_of.result = search rules in
    below_more _ _ c.loop-u.invariant (eq-eqb _ 0 (T.no_bits _ _ f (net_is (goal.at.loop-u-preserved c).After-net_of) c.if-net_of-ne0.false))

pub returns : goal.returns
unfolding nets_fit
returns c =
    let a = c.args in
    none_fails a.units (test a.streams a.flow.now a.count) c.loop-u.u (omega arith) c.loop-u.invariant

pub loop-u-init : goal.loop-u-init
loop-u-init c = below_none _

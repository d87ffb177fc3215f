-- Each turn adds one stream.
use borrow.Author.Rules.{rules}
use native.Mathlib.Omega.{arith}
use mathlib.Core.Path.{refl, ap, ◌∙◌}
use Prim.Native.Nat.{◌<◌}
use lib.ListN.{get_or}
use Rattle.plant_def.specs.Plants.{no_stream}
use Rattle.flow_def.specs.declared.Class.{Class}
use Rattle.flow_def.specs.Shown.{adjusted_weight}
use Rattle.flow_test.proofs.Summing.{class_is, weighed_none, weighed_more, weighed_all}
use Rattle.flow_test.proofs.adjusted_weights.Goals as goal

pub loop-i-init : goal.loop-i-init
loop-i-init c = (record { accepted = c.requires.0; classes = c.requires.1 }, weighed_none c.args.p)

pub loop-i-preserved : goal.loop-i-preserved
loop-i-preserved c =
    let at = c.loop-i in
    let v = at.invariant in
    let e = c.adjusted_weight-sum.ensures in
    let s = get_or c.args.p.streams at.i no_stream in
    let small : s.weight < 65536 = search rules in
    let class = ap (λ (k : Class). adjusted_weight k s) (class_is v.0 at.i (omega arith)) in
    (v.0, weighed_more v.0.accepted v.1 (omega arith) _ (e.0 s refl ∙ class) (omega (arith, e.1)))

pub returns : goal.returns
returns c = let v = c.loop-i.invariant in weighed_all v.0.accepted v.1 (omega arith)

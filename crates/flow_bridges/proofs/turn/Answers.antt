-- `flow_bridges::turn` meets its contract: the places passed are turned, the others are as they were.
use mathlib.Core.Path.{◌≡◌, ap, ◌∙◌}
use Prim.Native.Nat.{ℕ}
use native.Mathlib.Omega.{arith}
use lib.Bits.{bit_xor}
use lib.Dec.{eqb}
use lib.ListN.{get_or}
use Rattle.num_bytes.specs.Choice.{pick}
use Rattle.plant_def.specs.Limits.{places}
use Rattle.num_bytes.proofs.Lists.{written_none, written_put}
use Rattle.flow_def.proofs.BySides.{turned_all}
use Rattle.flow_bridges.proofs.turn.Goals as goal

pub loop-u-init : goal.loop-u-init
loop-u-init c = written_none c.requires.0

pub loop-u-preserved : goal.loop-u-preserved
loop-u-preserved c =
    let a = c.args in
    let w = c.loop-u.invariant in
    let u = c.loop-u.u in
    let kept = ap (λ (x : ℕ). pick (eqb (get_or a.labels.now u 0) a.h) (bit_xor x a.by) x) (w.rest u (omega arith)) in
    written_put w (omega arith) _ (c.turned_sides.ensures ∙ kept)

pub returns : goal.returns
returns c =
    let e : c.loop-u.u ≡ places = omega arith in
    let a = c.args in
    turned_all a.h a.by a.labels.now _ _ (rw e at c.loop-u.invariant)

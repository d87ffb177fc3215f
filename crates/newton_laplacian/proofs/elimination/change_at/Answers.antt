-- `newton_laplacian::elimination::change_at` meets its contract: the places before it are taken off the right-hand side.
use mathlib.Core.Path.{◌≡◌}
use Prim.Native.Nat.{◌+◌, ◌-◌, ◌*◌}
use native.Mathlib.Omega.{arith}
use Rattle.newton_laplacian.proofs.Changes.{rest_none, rest_more, change_found}
use Rattle.newton_laplacian.proofs.elimination.change_at.Goals as goal

pub returns-then-pivot : goal.returns-then-pivot
returns-then-pivot c = rw c.if-pivot.true

pub loop-j-init : goal.loop-j-init
loop-j-init c =
    let e : c.args.k * 34 + 1 - 1 ≡ c.args.k * 34 = omega arith in
    rw e (rest_none c.args.a.now c.args.x.now c.args.k)

pub loop-j-preserved : goal.loop-j-preserved
loop-j-preserved c = rest_more _ _ _ c.loop-j.j c.loop-j.rest c.loop-j.invariant

pub returns : goal.returns
returns c =
    let e : c.loop-j.j ≡ c.args.k = omega arith in
    change_found _ c.args.a.now c.args.x.now c.args.k c.loop-j.rest c.if-pivot.false (rw e at c.loop-j.invariant)

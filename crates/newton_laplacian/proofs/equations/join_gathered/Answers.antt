-- `newton_laplacian::equations::join_gathered` meets its contract: each stream joined keeps the length.
use Prim.Native.Nat.{◌<◌}
use native.Mathlib.Omega.{arith}
use Rattle.newton_laplacian.proofs.equations.join_gathered.Goals as goal

pub between-requires : goal.between-requires
between-requires c =
    let at = c.loop-k in
    let all = c.requires in
    let l = c.loop-k-test.true in
    let s : c.start_at.result < all.0 = rw c.start_at.ensures (all.1.ends.within _ (omega (arith, all.1.short, l))) in
    let e : c.end_at.result < all.0 = rw c.end_at.ensures (all.1.ends.within _ (omega (arith, all.1.short, l))) in (
      omega (arith, s, all.2, at.auto.a),
      omega (arith, e, all.2, at.auto.a),
      omega (arith, s, all.1.few),
      omega (arith, e, all.1.few),
    )

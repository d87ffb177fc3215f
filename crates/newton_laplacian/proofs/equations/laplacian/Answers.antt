-- `newton_laplacian::equations::laplacian` meets its contract: each stream joined keeps the length.
use native.Mathlib.Omega.{arith}
use Rattle.newton_laplacian.proofs.Ends.{gathered_first}
use Rattle.newton_laplacian.proofs.equations.laplacian.Goals as goal

pub join-requires : goal.join-requires
join-requires c =
    let at = c.loop-k in
    let all = c.requires in
    (all.0, gathered_first all.1 _ c.loop-k-test.true, omega (arith, all.2, at.auto.a))

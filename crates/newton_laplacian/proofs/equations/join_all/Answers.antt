-- `newton_laplacian::equations::join_all` meets its contract: each stream joined keeps the length.
use Prim.Native.Nat.{◌<◌}
use native.Mathlib.Omega.{arith}
use Rattle.solve_arcs.specs.Cells.{count_of}
use Rattle.newton_laplacian.proofs.equations.join_all.Goals as goal
use Rattle.newton_laplacian.proofs.equations.join_all.Goals.{In-loop-i}

used : (c : In-loop-i) → c.loop-i.i < count_of c.args.arcs.now
used c = rw (← c.count_of-count.ensures) c.loop-i-test.true

pub join_read-requires : goal.join_read-requires
join_read-requires c =
    ((c.requires.0, c.requires.1, omega (arith, c.requires.2, c.loop-i.auto.a)), used (goal.at.join_read-requires c).In-loop-i)

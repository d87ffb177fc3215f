-- `newton_laplacian::equations::join_read` meets its contract: both groups are among the places that the equations are of.
use Prim.Native.Nat.{◌<◌}
use native.Mathlib.Omega.{arith}
use Rattle.newton_laplacian.proofs.Rows.{read_of}
use Rattle.newton_laplacian.proofs.equations.join_read.Goals as goal

pub conductance_of-c-requires : goal.conductance_of-c-requires
conductance_of-c-requires c = read_of _ _ c.requires.0.1.laying _ c.requires.1

pub reading_of-x-requires : goal.reading_of-x-requires
reading_of-x-requires c = read_of _ _ c.requires.0.1.laying _ c.requires.1

pub between-requires : goal.between-requires
between-requires c =
    let p = c.requires.0.1 in
    let fits = c.requires.0.2 in
    let l = c.in-Some.ensures _ p in
    let g : c.wide.result < c.requires.0.0 = rw c.wide.ensures.0 l.0 in
    let h : c.wide-2.result < c.requires.0.0 = rw c.wide-2.ensures.0 l.1 in
    (omega (arith, g, fits), omega (arith, h, fits), omega (arith, g, p.few), omega (arith, h, p.few))

-- `solve_settle::amount_at` meets its contract: the nearest amount, brought into the range.
use mathlib.Core.Path.{◌≡◌}
use Prim.Native.Nat.{◌*◌}
use native.Mathlib.Omega.{arith}
use lib.ListN.{get_or}
use Rattle.solve_settle.proofs.amount_at.Goals as goal

pub nearest-x-requires : goal.nearest-x-requires
nearest-x-requires c =
    let light = c.requires.0.light in
    (omega (arith, c.max.ensures), omega (arith, c.max.ensures), c.requires.0.pulled, c.requires.1, c.requires.2)

pub returns : goal.returns
returns c = λ R e h.
    let one : c.max.result ≡ get_or c.args.rows.now (4 * c.args.i) 0 = omega (arith, c.max.ensures) in
    rw (c.clamp.ensures, c.nearest-x.ensures R (rw one e), one)

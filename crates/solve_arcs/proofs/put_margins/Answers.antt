-- `solve_arcs::put_margins` meets its contract: two stores.
use Prim.Native.Nat.{◌+◌, ◌*◌}
use lib.ListN.{get_or}
use Rattle.solve_arcs.proofs.put_margins.Goals as goal

pub returns : goal.returns
returns c =
    rw (c.rising.ensures (get_or c.args.rows.now (4 * c.args.i + 2) 0), c.falling.ensures (get_or c.args.rows.now (4 * c.args.i + 3) 0))

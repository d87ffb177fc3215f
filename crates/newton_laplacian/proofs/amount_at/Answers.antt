-- `newton_laplacian::amount_at` meets its contract: the conductance is that of the stream.
use mathlib.Core.Path.{ap}
use Prim.Native.Nat.{◌*◌}
use lib.ListN.{get_or}
use lib.Ieee.{Float, nan, binary64, add, mul}
use Rattle.newton_laplacian.proofs.amount_at.Goals as goal

pub returns : goal.returns
returns c =
    let a = c.args in
    ap (λ (z : Float). add binary64 (get_or a.meters.now (4 * a.k) nan) (mul binary64 a.climb z)) c.conductance_at.ensures

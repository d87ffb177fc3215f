-- `newton_laplacian::put` meets its contract: both groups are put in, and each store keeps the length.
use mathlib.Core.Path.{refl}
use lib.ListN.{length-set}
use Rattle.newton_laplacian.proofs.put.Goals as goal

pub returns : goal.returns
returns c = (refl, simp length-set c.requires.0.1)

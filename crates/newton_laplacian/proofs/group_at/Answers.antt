-- `newton_laplacian::group_at` meets its contract: the place that the arc leads to.
use Rattle.newton_laplacian.proofs.group_at.Goals as goal

pub returns : goal.returns
returns c = rw c.end_at.ensures

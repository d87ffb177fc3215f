-- `flow_bridges::way_between` meets its contract.
use mathlib.Core.Path.{refl}
use Rattle.flow_bridges.proofs.way_between.Goals as goal

pub returns : goal.returns
returns c = λ s r. rw (r.start, r.end) refl

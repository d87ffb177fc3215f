-- `flow_components::step` meets its contract: the ends are joined.
use mathlib.Core.Path.{refl}
use Rattle.flow_components.proofs.step.Goals as goal

pub returns : goal.returns
returns c = c.join.ensures c.args.s refl refl

-- `newton_descend::lowered` meets its contract: each store keeps the bounds.
use Rattle.newton_descend.proofs.Levels.{bounded_all}
use Rattle.newton_descend.proofs.lowered.Goals as goal

pub loop-u-init : goal.loop-u-init
loop-u-init c = bounded_all

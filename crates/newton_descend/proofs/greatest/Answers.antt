-- `newton_descend::greatest` meets its contract: the greatest of the potentials passed is known.
use Rattle.std.proofs.Common.{◌≡◌, length, ap, ◌∙◌, arith}
use Rattle.newton_descend.specs.Nets.{highest_to}
use Rattle.newton_descend.proofs.Steps.{highest_none, highest_more}
use Rattle.newton_descend.proofs.greatest.Goals as goal

pub loop-y-init : goal.loop-y-init
loop-y-init c = highest_none _

pub loop-y-preserved : goal.loop-y-preserved
loop-y-preserved c = highest_more c.args.x.now c.loop-y.y-index c.loop-y.most _ c.loop-y.invariant c.greater-most.ensures

pub returns : goal.returns
returns c = let e : c.loop-y.y-index ≡ length c.args.x.now = omega arith in c.loop-y.invariant ∙ ap (highest_to _) e

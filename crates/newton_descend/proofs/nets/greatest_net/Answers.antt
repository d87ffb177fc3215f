-- `newton_descend::nets::greatest_net` meets its contract: the greatest size of the nets passed is known.
use Rattle.std.proofs.Common.{◌≡◌, length, ap, ◌∙◌, arith}
use Rattle.newton_descend.specs.Nets.{greatest_to}
use Rattle.newton_descend.proofs.Steps.{greatest_none, greatest_more}
use Rattle.newton_descend.proofs.nets.greatest_net.Goals as goal

pub loop-z-init : goal.loop-z-init
loop-z-init c = greatest_none _

pub loop-z-preserved : goal.loop-z-preserved
loop-z-preserved c =
    greatest_more c.args.nets.now c.loop-z.z-index c.loop-z.most c.greater.result _ c.loop-z.invariant c.greater.ensures c.greater-most.ensures

pub returns : goal.returns
returns c = let e : c.loop-z.z-index ≡ length c.args.nets.now = omega arith in c.loop-z.invariant ∙ ap (greatest_to _) e

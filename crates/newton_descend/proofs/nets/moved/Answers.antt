-- `newton_descend::nets::moved` meets its contract: the potentials of the places passed are moved.
use Rattle.std.proofs.Common.{◌≡◌, ap, ◌∙◌, arith}
use Rattle.newton_descend.specs.Nets.{moved_to}
use Rattle.newton_descend.proofs.Steps.{moved_none, moved_more}
use Rattle.newton_descend.proofs.nets.moved.Goals as goal

pub loop-u-init : goal.loop-u-init
loop-u-init c = moved_none _ _ _ _

pub loop-u-preserved : goal.loop-u-preserved
loop-u-preserved c = moved_more _ _ _ _ c.loop-u.u c.loop-u.r c.loop-u.invariant

pub returns : goal.returns
returns c = let e : c.loop-u.u ≡ c.args.n = omega arith in c.loop-u.invariant ∙ ap (moved_to _ _ _ _) e

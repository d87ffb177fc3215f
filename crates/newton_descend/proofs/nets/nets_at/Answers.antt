-- `newton_descend::nets::nets_at` meets its contract: the first k streams are brought.
use Rattle.std.proofs.Common.{◌≡◌, ap, ◌∙◌, arith}
use Rattle.newton_descend.specs.Nets.{nets_to}
use Rattle.newton_descend.proofs.Steps.{nets_none, nets_more}
use Rattle.newton_descend.proofs.nets.nets_at.Goals as goal

pub loop-k-init : goal.loop-k-init
loop-k-init c = nets_none _ _ _

pub loop-k-preserved : goal.loop-k-preserved
loop-k-preserved c = c.bring.ensures ∙ nets_more _ _ _ c.loop-k.k c.loop-k.nets c.loop-k.invariant

pub returns : goal.returns
returns c = let e : c.loop-k.k ≡ c.args.streams.count = omega arith in c.loop-k.invariant ∙ ap (nets_to _ _ _) e

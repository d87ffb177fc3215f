-- `newton_descend::descents::slope` meets its contract: the nets at the potentials moved, times the direction.
use Rattle.std.proofs.Common.{◌∙◌, arith}
use Rattle.newton_descend.proofs.Steps.{product_fronts}
use Rattle.newton_descend.proofs.Trials.{slope_is}
use Rattle.newton_descend.proofs.descents.slope.Goals as goal

pub returns : goal.returns
returns c =
    slope_is c.args.streams.ends.now c.args.streams.meters.now c.args.streams.count c.args.potentials.now c.args.way.now c.args.n c.args.t _ _ c.product.result
    c.moved.ensures c.nets_at-nets.ensures (c.product.ensures ∙ product_fronts _ _ c.args.n (omega (arith, c.requires.few)) (omega (arith, c.requires.few)))

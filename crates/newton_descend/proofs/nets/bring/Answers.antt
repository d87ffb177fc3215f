-- `newton_descend::nets::bring` meets its contract: what the stream carries is brought.
use Rattle.newton_descend.proofs.Steps.{brought_is}
use Rattle.newton_descend.proofs.nets.bring.Goals as goal

pub returns : goal.returns
returns c =
    brought_is c.args.streams.ends.now c.args.streams.meters.now c.args.potentials.now c.args.nets.now c.args.k _ _ c.in_range-x.result c.amount_at.result
    c.start_at-g.ensures c.end_at-h.ensures c.amount_at.ensures c.in_range-x.ensures

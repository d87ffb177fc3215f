-- `solve_settle::resettle` meets its contract: the amounts first, then the nets that they leave.
use mathlib.Core.Path.{sym}
use Rattle.solve_def.proofs.Layouts.{ready_amounts, settled_is}
use Rattle.solve_settle.proofs.resettle.Goals as goal

pub settle_flows-requires : goal.settle_flows-requires
settle_flows-requires c =
    let h = c.requires in
    (h.laying, h.ready.start.capped, h.ready.start.long)

pub nets_of-state-requires : goal.nets_of-state-requires
nets_of-state-requires c =
    let h = c.requires in
    let w = h.laying in
    ((_, w), rw (c.settle_flows.ensures w) (ready_amounts w.streams w.n w.network _ h.ready))

pub returns : goal.returns
returns c = λ w. rw (c.nets_of-state.ensures _ w, c.settle_flows.ensures w) (sym (settled_is w.streams w.n w.network _))

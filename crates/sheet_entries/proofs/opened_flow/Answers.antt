-- The shift, taken away.
use mir.Facts.{to_z-of_z}
use Rattle.sheet_entries.proofs.Opening.{opened_here, opened_fits}
use Rattle.sheet_entries.proofs.opened_flow.Goals as goal

pub overflow_sub-result : goal.overflow_sub-result
overflow_sub-result c = rw (opened_here c.args.x c.requires) (opened_fits c.args.x c.requires)

pub returns : goal.returns
returns c = rw (opened_here c.args.x c.requires) (to_z-of_z (opened_fits c.args.x c.requires))

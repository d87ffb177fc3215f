-- One stream in the array is another.
use Rattle.visit_costs.proofs.Gone.{gone_right}
use Rattle.visit_costs.proofs.unmeter_one.Goals as goal

pub returns : goal.returns
returns c =
    gone_right c.args.p c.requires.0 c.args.k c.requires.1 c.unmetered_stream-bare.result c.unmetered_stream-bare.ensures

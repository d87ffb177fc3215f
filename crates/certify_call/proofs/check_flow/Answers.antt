-- Without a fault each stream is within its limits.
use mathlib.Core.Path.{sym}
use Rattle.certify_def.specs.Test.{wide_at}
use Rattle.certify_def.proofs.Answer.{all_within}
use Rattle.certify_call.proofs.check_flow.Goals as goal

pub rules_hold-requires : goal.rules_hold-requires
rules_hold-requires c =
    let pre = c.requires in
    (pre.0, pre.1, pre.2, pre.3, all_within c.args.units (wide_at c.args.streams) c.args.count (sym c.in_ok-check_streams.ensures))

-- The quotient is at least m where m times the divisor is at most n.
use Rattle.certify_stream.proofs.Widths.{by_quotient}
use Rattle.certify_stream.proofs.times_within.Goals as goal

pub returns : goal.returns
returns c = by_quotient c.args.m c.args.by c.args.n c.requires

-- After i turns the first i records fit.
use borrow.Author.Rules.{rules}
use Rattle.foreign_flows.proofs.Checking as C
use Rattle.foreign_flows.proofs.records_fit.Goals as goal

pub returns-then-not-record_fits : goal.returns-then-not-record_fits
returns-then-not-record_fits c = C.one_fails c.args.count _ c.loop-i.i c.loop-i-test.true (search rules)

pub returns : goal.returns
returns c = C.none_fails c.args.count _ c.loop-i.i c.loop-i-test.false c.loop-i.invariant

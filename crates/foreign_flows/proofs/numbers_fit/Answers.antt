-- By how many there are, then by the test of each.
use Rattle.foreign_flows.proofs.Checking as C
use Rattle.foreign_flows.proofs.numbers_fit.Goals as goal

pub returns-then-numbers-units : goal.returns-then-numbers-units
returns-then-numbers-units c =
    C.all_tested c.args.units c.args.numbers.now c.if-numbers-units.true c.all_small.result c.all_small.ensures

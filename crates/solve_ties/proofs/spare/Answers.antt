-- `solve_ties::spare` meets its contract: by whether the stream is metered.
use Rattle.solve_arcs.proofs.Stores.{margined_shut, margined_free}
use Rattle.solve_ties.proofs.spare.Goals as goal

pub returns-then-rows-i-gt0 : goal.returns-then-rows-i-gt0
returns-then-rows-i-gt0 c = λ n xs m.
    rw c.shut_margins.ensures (margined_shut c.args.rows.now 1 c.args.i _ c.requires.0 n xs c.if-rows-i-gt0.true m)

pub returns-else-rows-i-gt0 : goal.returns-else-rows-i-gt0
returns-else-rows-i-gt0 c = λ n xs m.
    margined_free c.args.rows.now 1 c.args.i _ c.requires.0 n xs c.if-rows-i-gt0.false m

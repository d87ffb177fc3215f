-- `solve_arcs_fill::put_row` meets its contract: each number is stored.
use Rattle.solve_arcs_fill.proofs.put_row.Goals as goal

pub returns : goal.returns
returns c =
    let pull = c.pull_of_reading.ensures in
    (rw (c.weight_of.ensures, pull.0, c.low_of.ensures.0, c.high_of.ensures.0), rw pull.0 at pull.1)

-- `newton_laplacian::in_range` meets its contract: each answer is that of the tests before it.
use Rattle.newton_laplacian.proofs.in_range.Goals as goal

pub returns-then-x-low : goal.returns-then-x-low
returns-then-x-low c = rw c.if-x-low.true

pub returns-then-high-x : goal.returns-then-high-x
returns-then-high-x c = rw (c.if-x-low.false, c.if-high-x.true)

pub returns : goal.returns
returns c = rw (c.if-x-low.false, c.if-high-x.false)

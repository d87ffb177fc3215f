-- `solve_settle::nearest` meets its contract: one quotient.
use Rattle.solve_settle.proofs.Quotients.{nearest_is}
use Rattle.solve_settle.proofs.nearest.Goals as goal

pub returns : goal.returns
returns c = λ R e. let a = c.args in rw (c.saturating_sub.ensures, e) (nearest_is a.w R a.pu a.pv c.requires.0)

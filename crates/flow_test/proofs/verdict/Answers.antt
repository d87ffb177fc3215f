-- By the tests in their order.
use native.Mathlib.Omega.{arith}
use borrow.Author.Tests.{eq-eqb}
use Rattle.flow_test.proofs.Edges.{pass_is, close_is, fail_is}
use Rattle.flow_test.proofs.verdict.Goals as goal

pub returns-then-degrees-eq0 : goal.returns-then-degrees-eq0
returns-then-degrees-eq0 c = simp (eq-eqb _ _ c.if-degrees-eq0.true)

pub returns-then-cost-value : goal.returns-then-cost-value
returns-then-cost-value c = let a = c.args in pass_is a.degrees a.cost a.weights c.if-degrees-eq0.false (omega (arith, c.if-cost-value.true))

pub returns-then-cost-value-2 : goal.returns-then-cost-value-2
returns-then-cost-value-2 c =
    let a = c.args in
    close_is a.degrees a.cost a.weights c.if-degrees-eq0.false (omega (arith, c.if-cost-value.false)) (omega (arith, c.if-cost-value-2.true))

pub returns : goal.returns
returns c = let a = c.args in fail_is a.degrees a.cost a.weights c.if-degrees-eq0.false (omega (arith, c.if-cost-value.false)) (omega (arith, c.if-cost-value-2.false))

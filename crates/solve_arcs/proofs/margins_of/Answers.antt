-- `solve_arcs::margins_of` meets its contract: the first i streams have their margins.
use mathlib.Core.Path.{◌≡◌}
use native.Mathlib.Omega.{arith}
use Rattle.solve_arcs.proofs.Stores.{margined_none, margined_more}
use Rattle.solve_arcs.proofs.margins_of.Goals as goal

pub loop-i-init : goal.loop-i-init
loop-i-init c = margined_none _ _ 0 _ (omega arith) _ c.requires.4

pub put_margins-requires : goal.put_margins-requires
put_margins-requires c =
    let l = c.loop-i-test.true in
    (c.requires.0 _ l, c.requires.1 _ l, c.requires.3, c.loop-i.invariant.long)

pub loop-i-preserved : goal.loop-i-preserved
loop-i-preserved c =
    let at = c.loop-i in
    rw c.put_margins.ensures (margined_more _ _ at.i at.margins (omega (arith, c.loop-i-test.true, c.requires.2)) _ at.invariant)

pub returns : goal.returns
returns c =
    let e : c.loop-i.i ≡ c.args.count = omega arith in
    rw e at c.loop-i.invariant

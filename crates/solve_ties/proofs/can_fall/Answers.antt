-- `solve_ties::can_fall` meets its contract: by whether the stream is metered.
use mathlib.Core.Path.{sym, ap}
use Prim.Native.Nat.{ℕ, ◌<◌}
use native.Mathlib.Omega.{arith}
use borrow.Author.Tests.{lt-ltb, le-ltb}
use lib.Dec.{eqb}
use Rattle.plant_def.specs.Limits.{places}
use Rattle.solve_arcs.proofs.Along.{starts_at, ends_at}
use Rattle.solve_ties.proofs.Evened.{small_back, reduced_back}
use Rattle.solve_ties.proofs.can_fall.Goals as goal
use Rattle.solve_ties.proofs.can_fall.Goals.{After-end_at-u, After-end_at-v}

start_in : (c : After-end_at-u) → c.end_at-u.result < places
start_in c = rw (c.end_at-u.ensures, ← starts_at c.args.arcs.now c.args.i c.requires.1) (c.requires.0.linked.from_in _ c.requires.1)

end_in : (c : After-end_at-v) → c.end_at-v.result < places
end_in c = rw (c.end_at-v.ensures, ← ends_at c.args.arcs.now c.args.i c.requires.1) (c.requires.0.linked.to_in _ c.requires.1)

pub offset_bounds-potentials-v : goal.offset_bounds-potentials-v
offset_bounds-potentials-v c = omega (arith, end_in (goal.at.offset_bounds-potentials-v c).After-end_at-v)

pub bounds-potentials-v : goal.bounds-potentials-v
bounds-potentials-v c = end_in (goal.at.bounds-potentials-v c).After-end_at-v

pub offset_bounds-potentials-u : goal.offset_bounds-potentials-u
offset_bounds-potentials-u c = omega (arith, start_in (goal.at.offset_bounds-potentials-u c).After-end_at-u)

pub bounds-potentials-u : goal.bounds-potentials-u
bounds-potentials-u c = start_in (goal.at.bounds-potentials-u c).After-end_at-u

pub reduced_cost-requires : goal.reduced_cost-requires
reduced_cost-requires c =
    (small_back c.args.arcs.now c.args.margins.now c.args.i c.requires.0.small c.requires.1, c.requires.0.potentials _ (end_in (goal.at.reduced_cost-requires c).After-end_at-v), c.requires.0.potentials _ (start_in (goal.at.reduced_cost-requires c).After-end_at-u))

pub returns-then-rows-i-gt0 : goal.returns-then-rows-i-gt0
returns-then-rows-i-gt0 c =
    rw (lt-ltb 0 _ c.if-rows-i-gt0.true, c.reduced_cost.ensures.0, c.end_at-v.ensures, c.end_at-u.ensures)
    (sym (ap (λ (x : ℕ). eqb x 0) (reduced_back c.args.arcs.now c.args.margins.now c.args.potentials.now c.args.i c.requires.1)))

pub returns-else-rows-i-gt0 : goal.returns-else-rows-i-gt0
returns-else-rows-i-gt0 c = rw (le-ltb 0 _ c.if-rows-i-gt0.false)

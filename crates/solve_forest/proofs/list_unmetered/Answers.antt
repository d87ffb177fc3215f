-- `solve_forest::list_unmetered` meets its contract: of the first i streams the unmetered ones are listed.
use Rattle.std.specs.Int.{from_bool}
use Rattle.std.proofs.Common.{◌≡◌, ℕ, ◌≤◌, Bool, true, false, ◌<◌, length, arith, length-set}
use Rattle.solve_arcs.specs.Cells.{count_of}
use Rattle.solve_forest.proofs.Spanning.{listed_turn}
use Rattle.solve_forest.proofs.list_unmetered.Goals as goal
use Rattle.solve_forest.proofs.list_unmetered.Goals.{In-loop-i}

used : (c : In-loop-i) → c.loop-i.i < count_of c.args.arcs.now
used c = rw (← c.count_of-count.ensures) c.loop-i-test.true

-- A test adds at most 1.
counted : (b : Bool) (r : ℕ) → r ≡ from_bool b → r ≤ 1
counted true r e = omega (arith, e)
counted false r e = omega (arith, e)

pub returns-then-all-eq0 : goal.returns-then-all-eq0
returns-then-all-eq0 c = record { long = c.requires.1; few = omega arith; each = λ w k l. absurd (omega arith) }

pub loop-i-init : goal.loop-i-init
loop-i-init c =
    (omega arith, omega (arith, c.count_of-count.ensures, c.requires.0.laid.along.linked.few), c.requires.1, λ w k l. absurd (omega arith))

pub loop-i-preserved : goal.loop-i-preserved
loop-i-preserved c =
    let at = c.loop-i in
    let inv = at.invariant in
    let room : at.n < length at.listed = omega (arith, inv, c.loop-i-test.true) in (
      omega (arith, inv, counted _ _ c.from-n.ensures),
      inv.1,
      simp length-set inv.2,
      listed_turn at.listed inv.3 room at.i (used (goal.at.loop-i-preserved c).In-loop-i) c.from-n.result c.from-n.ensures,
    )

pub returns : goal.returns
returns c = let inv = c.loop-i.invariant in record { long = inv.2; few = omega (arith, inv); each = inv.3 }

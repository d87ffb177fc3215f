-- `solve_path::walking::nearest` meets its contract: of the places of the fringe that are looked at the nearest is known, and its code.
use mathlib.Core.Path.{◌≡◌}
use Prim.Native.Nat.{◌-◌, ◌<◌}
use native.Mathlib.Omega.{arith}
use lib.Bits.{and_le_r}
use lib.Count.{count_trailing_zeros}
use borrow.Author.Rules.{rules}
use Rattle.plant_def.specs.Limits.{places}
use Rattle.solve_path.proofs.Pacing.{scanned_none, scanned_in, scanned_nearer, scanned_not, scanned_all}
use Rattle.solve_path.proofs.walking.nearest.Goals as goal
use Rattle.solve_path.proofs.walking.nearest.Goals.{then-code-best, else-code-best}
use Rattle.solve_path.proofs.walking.nearest.Goals.{In-loop-left}

-- The lowest that is left is a place.
place : (c : In-loop-left) → count_trailing_zeros 64 c.loop-left.left < places
place c = let v = c.requires.1 in scanned_in _ _ _ _ _ c.loop-left.invariant.1 c.loop-left-test.true v.0 v.1 v.2

pub loop-left-init : goal.loop-left-init
loop-left-init c = (omega arith, scanned_none _ _ (search rules))

pub overflow_cast-u : goal.overflow_cast-u
overflow_cast-u c = omega (arith, place c)

pub offset_bounds-near-u : goal.offset_bounds-near-u
offset_bounds-near-u c = omega (arith, place c)

pub bounds-near-u : goal.bounds-near-u
bounds-near-u c = place (goal.at.bounds-near-u c).In-loop-left

pub loop-left-smaller : goal.loop-left-smaller
loop-left-smaller c =
    omega (arith, and_le_r c.loop-left.left (c.loop-left.left - 1), c.loop-left-test.true)

pub loop-left-preserved : goal.loop-left-preserved
loop-left-preserved c =
    let w = c.loop-left.invariant.1 in
    elim c.if-code-best.branch [
      | then-code-best o ↦ rw (o.best-is, o.at-is) (omega (arith, place (goal.at.loop-left-preserved c).In-loop-left), scanned_nearer _ _ _ _ _ w c.loop-left-test.true o.if-code-best.true)
      | else-code-best o ↦ rw (o.best-is, o.at-is) (c.loop-left.invariant.0, scanned_not _ _ _ _ _ w c.loop-left-test.true o.if-code-best.false)
    ]

pub returns : goal.returns
returns c =
    let e : c.loop-left.left ≡ 0 = omega arith in
    (c.loop-left.invariant.0, λ limit vs h. scanned_all _ _ _ _ (rw e at c.loop-left.invariant.1) limit vs h)

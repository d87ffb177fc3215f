-- `solve_path::lower` meets its contract: the potentials of the first u places are reduced.
use mathlib.Core.Path.{◌≡◌, refl, ◌∙◌}
use mathlib.Core.Bool.{Bool, true, false}
use Prim.Native.Nat.{ℕ, ◌-◌}
use native.Mathlib.Omega.{arith}
use lib.ListN.{get_or}
use Rattle.num_bytes.specs.Choice.{pick}
use Rattle.plant_def.specs.Limits.{places}
use Rattle.solve_def.specs.Search.{fallen}
use Rattle.num_bytes.proofs.Lists.{written_none, written_put}
use Rattle.solve_def.proofs.Filling.{fallen_is}
use Rattle.solve_path.proofs.lower.Goals as goal

pub loop-u-init : goal.loop-u-init
loop-u-init c = written_none c.requires

-- A potential that falls, or not.
fallen_by : (b : Bool) (g p : ℕ) → p - pick b g 0 ≡ fallen b g p
fallen_by true g p = refl
fallen_by false g p = omega arith

pub loop-u-preserved : goal.loop-u-preserved
loop-u-preserved c =
    let m = c.loop-u.invariant in
    let u = c.loop-u.u in
    written_put m (omega arith) _ (c.saturating_sub.ensures ∙ rw (c.fall.ensures, m.rest u (omega arith)) (fallen_by (get_or c.args.visited.now u false) _ _))

pub returns : goal.returns
returns c =
    let e : c.loop-u.u ≡ places = omega arith in
    fallen_is _ _ _ _ _ c.requires (rw e at c.loop-u.invariant)

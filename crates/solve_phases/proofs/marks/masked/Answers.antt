-- `solve_phases::marks::masked` meets its contract: the marks of the first u places are written.
use mathlib.Core.Path.{◌≡◌}
use mathlib.Core.Bool.{Bool, false, ◌&&◌}
use mathlib.Core.List.{List}
use Prim.Native.Nat.{ℕ, ◌<◌}
use native.Mathlib.Omega.{arith}
use lib.Dec.{leb}
use lib.ListN.{get_or, length-replicate}
use Rattle.plant_def.specs.Limits.{places}
use Rattle.num_bytes.proofs.Lists.{values_at, written_none, written_put, written_all}
use Rattle.solve_def.specs.Model.{masked}
use Rattle.solve_def.proofs.Marked.{masked_long}
use Rattle.solve_phases.proofs.marks.masked.Goals as goal
use Rattle.solve_phases.proofs.marks.masked.Goals.{then-marked-u, else-marked-u}

masked_at : (n : ℕ) (ms : List Bool) (k : ℕ) → k < places → get_or (masked n ms) k false ≡ (get_or ms k false && leb k n)
unfolding masked
masked_at n ms k l = values_at (λ u. get_or ms u false && leb u n) false places k l

pub loop-u-init : goal.loop-u-init
loop-u-init c = written_none (length-replicate places false)

pub loop-u-preserved : goal.loop-u-preserved
loop-u-preserved c = written_put c.loop-u.invariant (omega arith) _
    (elim c.if-marked-u.branch [
      | then-marked-u w ↦ rw (w.own_u-is, w.if-marked-u.true)
      | else-marked-u w ↦ rw (w.own_u-is, w.if-marked-u.false)
    ])

pub returns : goal.returns
returns c =
    let e : c.loop-u.u ≡ places = omega arith in
    written_all (rw e at c.loop-u.invariant) (masked c.args.n c.args.marked) (masked_long _ _) (masked_at _ _)

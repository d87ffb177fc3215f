-- `newton_laplacian::equations::join` meets its contract: both groups are among the places that the equations are of.
use Prim.Native.Nat.{suc, ◌<◌}
use native.Mathlib.Omega.{arith}
use Rattle.plant_def.specs.Limits.{places}
use Rattle.newton_laplacian.specs.Cells.{Fits}
use Rattle.newton_laplacian.proofs.equations.join.Goals as goal
use Rattle.newton_laplacian.proofs.equations.join.Goals.{After-end_at-h, After-start_at-g}

-- Both groups are among the places.
start_in : (c : After-start_at-g) → c.start_at-g.result < c.requires.0
start_in c = let all = c.requires.1 in rw c.start_at-g.ensures (all.ends.within _ (omega (arith, all.short)))

end_in : (c : After-end_at-h) → c.end_at-h.result < c.requires.0
end_in c = let all = c.requires.1 in rw c.end_at-h.ensures (all.ends.within _ (omega (arith, all.short)))

both : (c : After-end_at-h) → let g = c.start_at-g.result in let h = c.end_at-h.result in let a = c.args.a.now in
    Fits (suc g) a × Fits (suc h) a × (g < places) × (h < places)
both c =
    let all = c.requires in
    (omega (arith, start_in (record { before = c.before.before; type_inv = record { a = c.type_inv.a } }), all.2), omega (arith, end_in c, all.2), omega (arith, start_in (record { before = c.before.before; type_inv = record { a = c.type_inv.a } }), all.1.few), omega (arith, end_in c, all.1.few))

pub offset_bounds-potentials-h : goal.offset_bounds-potentials-h
offset_bounds-potentials-h c = omega (arith, end_in (goal.at.offset_bounds-potentials-h c).After-end_at-h, c.requires.1.few)

pub bounds-potentials-h : goal.bounds-potentials-h
bounds-potentials-h c = omega (arith, end_in (goal.at.bounds-potentials-h c).After-end_at-h, c.requires.1.few)

pub offset_bounds-potentials-g : goal.offset_bounds-potentials-g
offset_bounds-potentials-g c = omega (arith, start_in (goal.at.offset_bounds-potentials-g c).After-start_at-g, c.requires.1.few)

pub bounds-potentials-g : goal.bounds-potentials-g
bounds-potentials-g c = omega (arith, start_in (goal.at.bounds-potentials-g c).After-start_at-g, c.requires.1.few)

pub between-requires : goal.between-requires
between-requires c = both (goal.at.between-requires c).After-end_at-h

pub between-requires-else-x-y : goal.between-requires-else-x-y
between-requires-else-x-y c = both (goal.at.between-requires-else-x-y c).After-end_at-h

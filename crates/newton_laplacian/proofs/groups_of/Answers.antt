-- `newton_laplacian::groups_of` meets its contract: both groups are those of places that the stream's ends are.
use native.Mathlib.Omega.{arith}
use Rattle.solve_arcs.proofs.Rowing.{low_in, start_in, end_in}
use Rattle.newton_laplacian.proofs.groups_of.Goals as goal

pub overflow_mul-i : goal.overflow_mul-i
overflow_mul-i c = omega (arith, low_in _ _ c.requires.0.1.laying _ c.requires.1)

pub group_at-g-requires : goal.group_at-g-requires
group_at-g-requires c =
    let w = c.requires.0.1.laying in
    (omega (arith, low_in _ _ w _ c.requires.1), start_in _ _ w _ c.requires.1)

pub overflow_mul-i-2 : goal.overflow_mul-i-2
overflow_mul-i-2 c = omega (arith, low_in _ _ c.requires.0.1.laying _ c.requires.1)

pub overflow_add-i : goal.overflow_add-i
overflow_add-i c = omega (arith, low_in _ _ c.requires.0.1.laying _ c.requires.1)

pub group_at-h-requires : goal.group_at-h-requires
group_at-h-requires c =
    let w = c.requires.0.1.laying in
    (omega (arith, low_in _ _ w _ c.requires.1), end_in _ _ w _ c.requires.1)

pub overflow_mul-i-else-g-h : goal.overflow_mul-i-else-g-h
overflow_mul-i-else-g-h c = omega (arith, low_in _ _ c.requires.0.1.laying _ c.requires.1)

pub offset_bounds-rows-i : goal.offset_bounds-rows-i
offset_bounds-rows-i c = omega (arith, low_in _ _ c.requires.0.1.laying _ c.requires.1)

pub bounds-rows-i : goal.bounds-rows-i
bounds-rows-i c = omega (arith, low_in _ _ c.requires.0.1.laying _ c.requires.1)

pub returns : goal.returns
returns c = λ n p. (rw c.group_at-g.ensures (p.starts _ c.requires.1), rw c.group_at-h.ensures (p.ends _ c.requires.1))

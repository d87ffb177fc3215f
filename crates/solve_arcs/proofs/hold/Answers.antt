-- `solve_arcs::hold` meets its contract: the sum does not wrap, since the amount fits 32 bits.
use mathlib.Core.Path.{refl}
use native.Mathlib.Omega.{arith}
use mir.Val.{SFits}
use mir.Syntax.{w32, w64}
use mir.ValLaws.{to_z-of_z}
use borrow.Author.Rules.{rules}
use Rattle.solve_def.proofs.Weights.{wide, shift_sum, shifted_most, shifted_fits}
use Rattle.solve_arcs.proofs.hold.Goals as goal
use Rattle.solve_arcs.proofs.hold.Goals.{Start}

-- The amount fits 32 bits.
fits : (c : Start) → SFits w32 c.args.z
fits c = search rules

pub overflow_cast-result : goal.overflow_cast-result
overflow_cast-result c = let z = c.args.z in let f = fits c in rw (to_z-of_z w32 z f) (wide z f)

pub overflow_add-result : goal.overflow_add-result
overflow_add-result c =
    let z = c.args.z in
    let f = fits c in
    rw (to_z-of_z w32 z f, to_z-of_z w64 z (wide z f), shift_sum z f) (shifted_fits z f)

pub overflow_cast-result-3 : goal.overflow_cast-result-3
overflow_cast-result-3 c =
    let z = c.args.z in
    let f = fits c in
    rw (to_z-of_z w32 z f, to_z-of_z w64 z (wide z f), shift_sum z f, to_z-of_z w64 _ (shifted_fits z f))
    (tt, omega (arith, shifted_most z f))

pub returns : goal.returns
returns c =
    let z = c.args.z in
    let f = fits c in
    rw (to_z-of_z w32 z f, to_z-of_z w64 z (wide z f), shift_sum z f, to_z-of_z w64 _ (shifted_fits z f))
    (refl, shifted_most z f)

-- After i turns those of the first i streams are bought that are to be.
use mathlib.Core.Path.{refl, sym, ◌∙◌, ap}
use mathlib.Core.Bool.{true, false}
use Prim.Native.Nat.{ℕ, ◌+◌, ◌<◌}
use native.Mathlib.Omega.{arith}
use lib.ListN.{get_or}
use Rattle.plant_def.specs.Limits.{max_streams}
use Rattle.plant_def.specs.Says.{plant_of}
use Rattle.purchase_def.specs.Views.{held_as}
use Rattle.purchase_def.specs.Choosing.{bought}
use Rattle.purchase_choose.proofs.Telling.{none_yet, with_room, next, told}
use Rattle.purchase_choose.proofs.choose.Goals as goal
use Rattle.purchase_choose.proofs.choose.Goals.{then-is_bought, else-is_bought}

pub loop-i-init : goal.loop-i-init
loop-i-init c =
    none_yet (λ k. get_or c.args.prices k 0) (bought (plant_of c.args.p) (λ k. get_or c.args.prices k 0)) _ c.nothing-b.ensures

pub with_more-b-requires : goal.with_more-b-requires
with_more-b-requires c =
    with_room (λ k. get_or c.args.prices k 0) c.requires.1 (bought (plant_of c.args.p) (λ k. get_or c.args.prices k 0))
    c.loop-i.i (held_as c.loop-i.b) (omega (arith, c.loop-i-test.true, c.requires.0.within.few_streams)) c.loop-i.invariant

pub loop-i-preserved : goal.loop-i-preserved
loop-i-preserved c =
    let at = c.loop-i in
    let price : ℕ → ℕ = λ k. get_or c.args.prices k 0 in
    let small : at.i < max_streams = omega (arith, c.loop-i-test.true, c.requires.0.within.few_streams) in
    elim c.if-is_bought.branch [
      | then-is_bought w ↦
          next price (bought (plant_of c.args.p) price) at.i (held_as at.b) true _ _ _ small at.invariant (sym w.if-is_bought.true ∙ c.is_bought.ensures)
          refl refl (ap held_as w.b-is ∙ w.with_more-b.ensures)
      | else-is_bought w ↦
          next price (bought (plant_of c.args.p) price) at.i (held_as at.b) false (at.i + 1) (price at.i) _ small at.invariant (sym w.if-is_bought.false ∙ c.is_bought.ensures)
          refl refl (ap held_as w.b-is)
    ]

pub returns : goal.returns
returns c =
    let at = c.loop-i in
    told (λ k. get_or c.args.prices k 0) c.args.p c.requires.0 at.i (held_as at.b) (omega arith) at.invariant

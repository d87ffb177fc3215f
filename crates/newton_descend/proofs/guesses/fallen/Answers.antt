-- `newton_descend::guesses::fallen` meets its contract: of the groups passed those that fall are known.
use Rattle.std.proofs.Common.{◌≡◌, length, refl, ap, ◌∙◌, arith}
use Rattle.newton_descend.specs.Guesses.{set_to}
use Rattle.newton_descend.proofs.Guessing.{set_none, set_more, fallen_all}
use Rattle.newton_descend.proofs.guesses.fallen.Goals as goal

pub loop-u-init : goal.loop-u-init
loop-u-init c = set_none _

pub loop-u-preserved : goal.loop-u-preserved
loop-u-preserved c = set_more _ c.loop-u.u c.loop-u.bits _ _ c.loop-u.invariant c.bit_of-bits.ensures refl

pub returns : goal.returns
returns c =
    let e : c.loop-u.u ≡ length c.args.way.now = omega arith in
    fallen_all _ _ _ _ c.halfway-middle.ensures (c.loop-u.invariant ∙ ap (set_to _) e)

-- `newton_descend::guesses::halfway` meets its contract: of the groups passed the greatest change and the least are known.
use Rattle.std.proofs.Common.{◌≡◌, length, ap, ◌∙◌, arith}
use Rattle.newton_descend.specs.Nets.{highest_to}
use Rattle.newton_descend.specs.Guesses.{lowest_to}
use Rattle.newton_descend.proofs.Steps.{highest_none, highest_more}
use Rattle.newton_descend.proofs.Guessing.{lowest_none, lowest_more, halfway_is}
use Rattle.newton_descend.proofs.guesses.halfway.Goals as goal

pub loop-change-init : goal.loop-change-init
loop-change-init c = (highest_none _, lowest_none _)

pub loop-change-preserved : goal.loop-change-preserved
loop-change-preserved c =
    let l = c.loop-change in (
      highest_more _ l.change-index l.most _ l.invariant.0 c.greater-most.ensures,
      lowest_more _ l.change-index l.least _ l.invariant.1 c.lesser-least.ensures,
    )

pub returns : goal.returns
returns c =
    let l = c.loop-change in
    let e : l.change-index ≡ length c.args.way.now = omega arith in
    halfway_is _ _ _ _ (l.invariant.0 ∙ ap (highest_to _) e) (l.invariant.1 ∙ ap (lowest_to _) e)

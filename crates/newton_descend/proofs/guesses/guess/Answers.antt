-- `newton_descend::guesses::guess` meets its contract: by whether the set is crowded.
use Rattle.std.proofs.Common.{◌∙◌, arith}
use Rattle.newton_descend.proofs.Guessing.{fallen_front, guess_some, guess_none}
use Rattle.newton_descend.proofs.guesses.guess.Goals as goal

pub returns-then-crowded : goal.returns-then-crowded
returns-then-crowded c =
    guess_some c.args.ends.now c.args.meters.now c.args.count c.args.way.now c.args.n _ _ (c.fallen-bits.ensures ∙ fallen_front _ c.args.n (omega (arith, c.requires.few))) c.crowded.ensures c.if-crowded.true

pub returns-else-crowded : goal.returns-else-crowded
returns-else-crowded c =
    guess_none c.args.ends.now c.args.meters.now c.args.count c.args.way.now c.args.n _ _ (c.fallen-bits.ensures ∙ fallen_front _ c.args.n (omega (arith, c.requires.few))) c.crowded.ensures c.if-crowded.false

-- The places from 0 on are all places. A chain from place 0 on is then proved too, so that one from place 1 on is refused for the place left out.
use borrow.Author.Rules.{rules}
use Rattle.std.proofs.lemmas.List.{take_rest}
use Rattle.foreign_sets.proofs.none_over.Goals as goal

pub returns : goal.returns
returns c =
    let whole = take_rest c.args.nets.now 0 in
    search rules

-- `newton_descend::guesses::into_at` meets its contract: by whether its ends are in the set.
use Rattle.newton_descend.proofs.Guessing.{into_is}
use Rattle.newton_descend.proofs.guesses.into_at.Goals as goal

pub returns : goal.returns
returns c =
    into_is c.args.streams.ends.now c.args.streams.meters.now _ c.args.k _ _ _ _ _
    c.start_at.ensures c.end_at.ensures c.is_in-start.ensures c.is_in-end.ensures c.least_into.ensures

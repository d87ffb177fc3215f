-- There is room for the numbers and for the costs.
use mathlib.Core.Path.{◌≡◌}
use borrow.Author.Rules.{rules}
use lib.ListN.{length}
use Rattle.plant_def.specs.Refused.{refusal_number}
use Rattle.num_lent.proofs.Rooms.{lend}
use Rattle.visit_def.specs.Says.{no_visits}
use Rattle.visit_def.specs.Views.{listed_as}
use Rattle.visit_call.proofs.Lending.{room_lent}
use Rattle.visit_call.proofs.visits_into.Goals as goal

pub returns-in-Err : goal.returns-in-Err
returns-in-Err c =
    let n : c.refused.result.number ≡ refusal_number c.in-Err.refusal = search rules in
    lend _ _ _ (no_visits (refusal_number c.in-Err.refusal)) _ _ c.in-Err.ensures
    (λ i. (n i, (c.refused.ensures i).count, c.args.numbers.now, c.args.costs.now))

pub put_bytes-requires : goal.put_bytes-requires
put_bytes-requires c =
    let a = c.args in
    let r = room_lent a.file.now (length a.numbers.now) (length a.costs.now) (listed_as c.in-Ok.visits) c.in-Ok.ensures in (r.0, r.1)

pub put_words-requires : goal.put_words-requires
put_words-requires c =
    let a = c.args in
    let r = room_lent a.file.now (length a.numbers.now) (length a.costs.now) (listed_as c.in-Ok.visits) c.in-Ok.ensures in (r.0, r.2)

pub returns : goal.returns
returns c =
    let v = listed_as c.in-Ok.visits in
    lend _ _ _ v _ _ c.in-Ok.ensures
    (λ i. (v.number, v.count, c.put_bytes.ensures i, c.put_words.ensures i))

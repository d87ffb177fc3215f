-- There is room for the numbers.
use lib.ListN.{length}
use mathlib.Core.Path.{refl}
use Rattle.std.specs.Prelude.{Ok, Err}
use Rattle.num_lent.proofs.Rooms.{room_one, lend}
use Rattle.purchase_def.specs.Says.{none_bought, BuySays}
use Rattle.purchase_def.specs.Views.{bought_as}
use Rattle.purchase_def.proofs.Promise.{few_bought}
use Rattle.purchase_call.proofs.lent.buy_into.Goals as goal

pub put_bytes-requires : goal.put_bytes-requires
put_bytes-requires c =
    let a = c.args in
    room_one none_bought (BuySays a.file.now a.prices.now) (λ b. b.count) refl (few_bought a.file.now a.prices.now) (length a.out.now)
    (bought_as (Ok c.in-Ok.bought)) c.in-Ok.ensures

pub returns-in-Err : goal.returns-in-Err
returns-in-Err c = lend _ _ _ (bought_as (Err c.in-Err.e)) _ _ c.in-Err.ensures (λ i. (c.number.ensures i, 0, 0, c.args.out.now))

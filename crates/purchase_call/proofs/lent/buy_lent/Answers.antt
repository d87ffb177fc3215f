-- By the room.
use mathlib.Core.Path.{refl}
use native.Mathlib.Omega.{arith}
use Rattle.num_lent.proofs.Rooms.{made_short, made_enough}
use Rattle.purchase_call.proofs.lent.buy_lent.Goals as goal

pub returns-then-room-lt-MAX_STREAMS : goal.returns-then-room-lt-MAX_STREAMS
returns-then-room-lt-MAX_STREAMS c = made_short _ _ _ _ (λ l. omega (arith, l, c.if-room-lt-MAX_STREAMS.true)) refl

pub returns : goal.returns
returns c = made_enough _ _ _ _ c.if-room-lt-MAX_STREAMS.false c.meters_to_buy.ensures

-- By the two tests in their order.
use mathlib.Core.Path.{refl}
use Rattle.num_lent.proofs.Rooms.{first_short, second_short, made_enough}
use Rattle.charge_call.proofs.charges_lent.Goals as goal

pub returns-then-numbers-lt-MAX_STREAMS : goal.returns-then-numbers-lt-MAX_STREAMS
returns-then-numbers-lt-MAX_STREAMS c = first_short _ _ _ _ _ c.if-numbers-lt-MAX_STREAMS.true refl

pub returns-then-cents-lt-MAX_STREAMS : goal.returns-then-cents-lt-MAX_STREAMS
returns-then-cents-lt-MAX_STREAMS c = second_short _ _ _ _ _ c.if-cents-lt-MAX_STREAMS.true refl

pub returns : goal.returns
returns c = made_enough _ _ _ _ (c.if-numbers-lt-MAX_STREAMS.false, c.if-cents-lt-MAX_STREAMS.false) c.charges_of.ensures

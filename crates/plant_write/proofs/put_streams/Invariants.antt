-- Each turn lends the part that starts at the next free byte.
use lib.ListN.{length}
use Rattle.plant_write.proofs.Loops.{Streams}
use Rattle.plant_write.proofs.put_streams.Given as goal

abbrev pub invariant-loop-s : goal.invariant-loop-s
invariant-loop-s l = Streams l.streams (length l.streams) l.initial.out l.out l.at l.s-index

-- `flow_bridges::turn` meets its contract: the places passed are turned, the others are as they were.
use lib.Bits.{bit_xor}
use lib.Dec.{eqb}
use lib.ListN.{get_or}
use Rattle.num_bytes.specs.Choice.{pick}
use Rattle.plant_def.specs.Limits.{places}
use Rattle.num_bytes.proofs.Lists.{Written}
use Rattle.flow_bridges.proofs.turn.Given as goal

abbrev pub invariant-loop-u : goal.invariant-loop-u
invariant-loop-u l = Written 0 places (λ k x. pick (eqb (get_or l.labels k 0) l.h) (bit_xor x l.by) x) l.initial.sides l.sides l.u

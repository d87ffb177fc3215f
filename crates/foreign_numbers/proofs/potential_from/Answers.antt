-- The difference of two potentials fits 64 bits.
use Rattle.foreign_numbers.proofs.Potentials.{apart_fits, apart_is}
use Rattle.foreign_numbers.proofs.potential_from.Goals as goal

pub overflow_sub-result : goal.overflow_sub-result
overflow_sub-result c = apart_fits c.args.potential c.args.outside c.requires.0 c.requires.1

pub returns : goal.returns
returns c = apart_is c.args.potential c.args.outside c.requires.0 c.requires.1

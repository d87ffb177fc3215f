-- Two stores, one after the other.
use Rattle.foreign_sets.proofs.Carrying as C
use Rattle.foreign_sets.proofs.carry.Goals as goal

pub overflow_add-nets : goal.overflow_add-nets
overflow_add-nets c =
    C.add_fits c.args.nets.now c.args.to c.args.from c.args.x c.requires.0 c.requires.1 c.requires.2 c.requires.3 c.ranges.x

pub overflow_sub-nets : goal.overflow_sub-nets
overflow_sub-nets c =
    C.sub_fits c.args.nets.now c.args.to c.args.from c.args.x c.requires.0 c.requires.1 c.requires.2 c.requires.3 c.ranges.x

pub returns : goal.returns
returns c =
    C.carried c.args.nets.now c.args.to c.args.from c.args.x c.requires.0 c.requires.1 c.requires.2 c.requires.3 c.ranges.x

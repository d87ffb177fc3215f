-- `solve_path::offer` meets its contract: the code is stored in any case.
use Rattle.solve_path.proofs.Coding.{stored, bit_of}
use Rattle.solve_path.proofs.offer.Goals as goal

pub returns : goal.returns
returns c =
    let near = c.args.near.now in
    let v = c.args.v in
    (rw c.min.ensures (stored near v _), rw c.from.ensures (bit_of near v c.args.d c.args.i c.requires.1 c.requires.0))

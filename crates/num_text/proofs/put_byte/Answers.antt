-- One store.
use native.Mathlib.Omega.{arith}
use Rattle.num_text.proofs.Behind.{one}
use Rattle.num_text.proofs.put_byte.Goals as goal

pub returns : goal.returns
returns c = one c.args.byte c.args.at c.args.out.now (omega arith)

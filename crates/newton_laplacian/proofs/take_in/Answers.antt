-- `newton_laplacian::take_in` meets its contract: both groups are among the places.
use native.Mathlib.Omega.{arith}
use lib.ListN.{length-set}
use Rattle.newton_laplacian.proofs.Ends.{ends_set}
use Rattle.newton_laplacian.proofs.Rows.{read_of}
use Rattle.newton_laplacian.proofs.take_in.Goals as goal

pub put-requires : goal.put-requires
put-requires c = (c.requires.0, c.requires.1, read_of _ _ c.requires.2.1.laying _ c.requires.3)

pub returns : goal.returns
returns c =
    let o = c.put.ensures in
    record {
      long = ((rw o.0 (simp length-set c.requires.0.0), o.1), omega arith);
      still_ends = λ n p e.
          let l = c.in-Some.ensures n p in
          rw o.0 (ends_set n _ _ _ (ends_set n _ _ _ e (omega (arith, c.requires.1)) l.0) (omega (arith, c.requires.1)) l.1);
    }

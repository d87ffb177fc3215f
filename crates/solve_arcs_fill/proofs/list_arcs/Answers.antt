-- `solve_arcs_fill::list_arcs` meets its contract: six stores, in three parts.
use lib.ListN.{length-set}
use Rattle.solve_arcs_fill.proofs.list_arcs.Goals as goal

pub put_next-requires : goal.put_next-requires
put_next-requires c = (rw c.put_ends.ensures (simp length-set c.requires.0), c.requires.1)

pub put_first-requires : goal.put_first-requires
put_first-requires c = (
  rw c.put_next.ensures (simp length-set (rw c.put_ends.ensures (simp length-set c.requires.0))),
  c.requires.1,
  rw c.wide-u.ensures.0 c.requires.2,
  rw c.wide-v.ensures.0 c.requires.3,
)

pub returns : goal.returns
returns c =
    rw (
      c.put_first.ensures,
      c.put_next.ensures,
      c.put_ends.ensures,
      c.wide-u.ensures.0,
      c.wide-v.ensures.0,
    )

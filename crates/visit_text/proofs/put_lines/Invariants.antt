-- Line by line.
use lib.ListN.{length}
use Rattle.num_text.proofs.Lines.{Lines}
use Rattle.visit_text.specs.Says.{line_size}
use Rattle.visit_text.proofs.Lined.{first_lines}
use Rattle.visit_text.proofs.put_lines.Given as goal

abbrev pub invariant-loop-k : goal.invariant-loop-k
invariant-loop-k l = Lines (first_lines l.fn.streams l.costs) line_size (length l.fn.streams) l.initial.out l.out l.at l.k

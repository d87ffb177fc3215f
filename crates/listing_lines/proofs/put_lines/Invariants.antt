-- Line by line.
use lib.ListN.{length}
use Rattle.num_text.proofs.Lines.{Lines}
use Rattle.listing_lines.specs.Room.{line_size}
use Rattle.listing_lines.proofs.Lined.{first_lines}
use Rattle.listing_lines.proofs.put_lines.Given as goal

abbrev pub invariant-loop-i : goal.invariant-loop-i
invariant-loop-i l = Lines (first_lines l.fn.streams) line_size (length l.fn.streams) l.initial.out l.out l.at l.i

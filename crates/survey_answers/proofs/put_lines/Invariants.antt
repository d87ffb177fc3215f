-- Line by line.
use lib.ListN.{length}
use Rattle.num_text.proofs.Lines.{Lines}
use Rattle.survey_answers.specs.Says.{line_size}
use Rattle.survey_answers.proofs.Lined.{first_lines}
use Rattle.survey_answers.proofs.put_lines.Given as goal

abbrev pub invariant-loop-k : goal.invariant-loop-k
invariant-loop-k l = Lines (first_lines l.fn.counts) line_size (length l.fn.counts) l.initial.out l.out l.at l.k

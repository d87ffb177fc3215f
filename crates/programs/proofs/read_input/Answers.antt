-- What was read lies within the slice.
use borrow.Author.Rules.{rules}
use Rattle.programs.proofs.Answers.{read_out, full}
use Rattle.programs.proofs.read_input.Goals as goal

pub returns-then-more-eq0 : goal.returns-then-more-eq0
returns-then-more-eq0 g c = record {
  prefix_len = search rules;
  file_len_unchanged = search rules;
  read_out = read_out _ _ c.count-more.result _ c.count-more.ensures.value (search rules);
}

pub returns : goal.returns
returns g c = record {
  prefix_len = search rules;
  file_len_unchanged = search rules;
  read_out = full _ _ _ (search rules);
}

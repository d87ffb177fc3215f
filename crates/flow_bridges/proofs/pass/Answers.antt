-- `flow_bridges::pass` meets its contract, by its three parts; a stream that takes no label away is done with after the first.
use mathlib.Core.Path.{sym, ◌∙◌}
use Rattle.flow_def.proofs.BySides.{parted_none}
use Rattle.flow_bridges.proofs.Choices.{step_idle, step_joins}
use Rattle.flow_bridges.proofs.pass.Goals as goal

pub returns-then-h-eq0 : goal.returns-then-h-eq0
returns-then-h-eq0 c =
    let ls = c.args.labels.now in record {
      value = λ s r m. c.looped_by-looped.ensures s r m;
      sides_after = λ s r. parted_none ls c.args.sides.now s c.args.h c.if-h-eq0.true;
      step_says = λ s r m. step_idle ls s (sym c.if-h-eq0.true ∙ c.requires.h_value s r m);
    }

pub returns : goal.returns
returns c = record {
  value = λ s r m. c.looped_by-looped.ensures s r m;
  sides_after = λ s r. c.part.ensures s r;
  step_says = λ s r m. step_joins c.args.labels.now s _ (λ z. c.if-h-eq0.false (c.requires.h_value s r m ∙ z)) (c.join.ensures s r.start r.end);
}

-- The promise of the check is kept.
use mathlib.Core.Path.{refl, sym, ◌∙◌}
use Rattle.certify_def.specs.Test.{flow_number}
use Rattle.certify_def.proofs.Answer.{says_of, said_is}
use Rattle.certify_sheets.specs.Promise.{FlowsFoundElsewhere}
use Rattle.certify_sheets.proofs.Agreeing.{agrees}

-- The record of what is promised of the check.
pub flows_found_elsewhere : FlowsFoundElsewhere
flows_found_elsewhere = record {
  some = λ n c parts flow numbers. (flow_number n c parts flow numbers, says_of n c parts flow numbers _ refl);
  one = λ n c parts flow numbers r₁ r₂ a b. said_is n c parts flow numbers r₁ a ∙ sym (said_is n c parts flow numbers r₂ b);
  agrees = agrees;
}

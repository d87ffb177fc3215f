-- The chain's answer is that of the list.
use mathlib.Core.Path.{◌≡◌, sym, ◌∙◌}
use borrow.Author.Rules.{rules}
use borrow.Author.Tests.{tests}
use Rattle.std.specs.List.{list_any}
use Rattle.std.proofs.lemmas.Iterator.{YieldsList-from_slice}
use Rattle.std.proofs.lemmas.Iterator.Search.{any_from_yields_List}
use Rattle.ranged_def.specs.Moves.{narrower}
use Rattle.ranged_def.proofs.Mapped.{some_narrow, no_narrow}
use Rattle.ranged_call.proofs.narrow_fault.Goals as goal
use Rattle.ranged_call.proofs.narrow_fault.Goals.{After-any}

found : (c : After-any) → c.any.result ≡ list_any narrower c.args.streams
found c = any_from_yields_List narrower _ _ c.any.result c.any.ensures.ran (YieldsList-from_slice c.args.streams cc) (λ x b q k. search (rules, tests))

pub returns-then-any : goal.returns-then-any
returns-then-any c = some_narrow c.args.streams (sym (found (goal.at.returns-then-any c).After-any) ∙ c.if-any.true)

pub returns : goal.returns
returns c = no_narrow c.args.streams (sym (found (goal.at.returns c).After-any) ∙ c.if-any.false)

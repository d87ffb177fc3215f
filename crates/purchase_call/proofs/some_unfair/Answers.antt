-- The chain's answer is that of the list.
use mathlib.Core.Path.{◌∙◌}
use borrow.Author.Rules.{rules}
use borrow.Author.Tests.{tests}
use Rattle.std.proofs.lemmas.Iterator.{YieldsList-from_slice}
use Rattle.std.proofs.lemmas.Iterator.Search.{any_from_yields_List}
use Rattle.purchase_call.proofs.Prices.{off, any_unfair}
use Rattle.purchase_call.proofs.some_unfair.Goals as goal

pub returns : goal.returns
returns c =
    any_from_yields_List off _ _ c.any.result c.any.ensures.ran (YieldsList-from_slice c.args.prices.now cc) (λ x b q k. search (rules, tests))
    ∙ any_unfair c.args.prices.now

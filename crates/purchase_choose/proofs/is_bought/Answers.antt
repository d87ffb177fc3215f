-- An unmetered stream is bought by the labels of those that go before it.
use borrow.Author.Tests.{not-true}
use lib.ListN.{get_or}
use Rattle.purchase_choose.proofs.Telling.{by_label}
use Rattle.purchase_choose.proofs.is_bought.Goals as goal

pub returns-then-not-s : goal.returns-then-not-s
returns-then-not-s c =
    by_label c.args.p c.requires.0 (λ k. get_or c.args.prices k 0) c.args.i c.requires.1 (not-true _ c.if-not-s.true) _
    c.labels_before.ensures _ c.one_label.ensures

-- The chain counts the unmetered ones of the streams that are listed.
use mathlib.Core.Path.{◌≡◌, ◌∙◌}
use mathlib.Core.Bool.{not}
use lib.ListN.{take}
use borrow.Author.Rules.{rules}
use Rattle.std.specs.List.{count_by}
use Rattle.plant_def.specs.declared.Stream.{Stream}
use Rattle.purchase_call.proofs.Prices.{counted}
use Rattle.purchase_call.proofs.unmetered_in.Goals as goal

pub returns : goal.returns
returns c =
    let e : c.count.result ≡ count_by (λ (s : Stream). not s.metered) (take c.args.p.count c.args.p.streams) = search rules in
    e ∙ counted c.args.p c.requires

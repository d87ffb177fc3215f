-- `solve_forest::unreached` meets its contract: the places that pass the test are counted.
use Rattle.std.proofs.Common.{◌≡◌, not, sym, ◌∙◌, rules}
use Rattle.std.specs.List.{count_by}
use Rattle.solve_forest.proofs.Counted.{places_count}
use Rattle.solve_forest.proofs.unreached.Goals as goal
use Rattle.solve_forest.proofs.unreached.Goals.{After-count}

counted : (c : After-count) → c.count.result ≡ count_by not c.args.reached.now
counted c = search rules

pub returns : goal.returns
returns c = counted (goal.at.returns c).After-count ∙ sym (rw c.requires at (places_count not c.args.reached.now))

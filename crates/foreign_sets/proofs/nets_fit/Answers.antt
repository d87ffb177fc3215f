-- All nets are 0 where each is.
use borrow.Author.Rules.{rules}
use Rattle.plant_def.specs.Says.{plant_of}
use Rattle.flow_def.specs.Flows.{amount_at}
use Rattle.foreign_sets.proofs.Carrying as C
use Rattle.foreign_sets.proofs.nets_fit.Goals as goal

pub labels_by-labels-requires : goal.labels_by-labels-requires
labels_by-labels-requires c = (c.requires.0, c.requires.1)

pub nets_by-nets-requires : goal.nets_by-nets-requires
nets_by-nets-requires c = (c.requires.0, c.requires.2, C.label_places c.args.p c.requires.0 _ _ c.labels_by-labels.ensures)

pub returns : goal.returns
returns c =
    C.nets_tested (plant_of c.args.p).streams (amount_at c.args.flows) _ _ c.labels_by-labels.ensures c.nets_by-nets.result c.nets_by-nets.ensures
    _ (search rules) c.none_over.ensures

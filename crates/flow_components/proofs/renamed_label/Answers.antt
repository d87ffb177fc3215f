-- `flow_components::renamed_label` meets its contract.
use mathlib.Core.Path.{sym}
use Rattle.flow_def.proofs.Labels.{renamed_hit, renamed_miss}
use Rattle.flow_components.proofs.renamed_label.Goals as goal

pub returns-then-x-hi : goal.returns-then-x-hi
returns-then-x-hi c = renamed_hit _ _ c.args.x c.if-x-hi.true

pub returns : goal.returns
returns c = sym (renamed_miss _ _ _ c.if-x-hi.false)

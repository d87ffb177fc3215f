-- `flow_components::counts` meets its contract.
use mathlib.Core.Path.{refl}
use Rattle.flow_components.proofs.counts.Goals as goal

pub returns-in-Every : goal.returns-in-Every
returns-in-Every c i s e = rw c.in-Every.is refl

pub returns-in-Unmetered : goal.returns-in-Unmetered
returns-in-Unmetered c i s e = rw (c.in-Unmetered.is, e) refl

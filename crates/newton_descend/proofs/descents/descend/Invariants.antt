-- `newton_descend::descents::descend` meets its contract: the direction has a change for each place.
use Rattle.std.proofs.Common.{◌≡◌, length}
use Rattle.plant_def.specs.Limits.{places}
use Rattle.newton_descend.proofs.descents.descend.Given as goal

abbrev pub invariant-loop-step : goal.invariant-loop-step
invariant-loop-step l = length l.way ≡ places

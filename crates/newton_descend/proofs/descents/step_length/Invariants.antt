-- `newton_descend::descents::step_length` meets its contract: the length that is found is that which so many trials find.
use Rattle.newton_descend.specs.Descents.{slope_at}
use Rattle.newton_descend.proofs.Trials.{Tried}
use Rattle.newton_descend.proofs.descents.step_length.Given as goal

abbrev pub invariant-loop-trial : goal.invariant-loop-trial
invariant-loop-trial l = Tried (slope_at l.streams.ends.now l.streams.meters.now l.streams.count l.potentials l.way l.n) l.first l.initial.b l.b l.trial

-- `solve_augment::augment` meets its contract: with j streams to go the augmentation comes to what it comes to from the start.
use Rattle.solve_augment.proofs.Augments.{Augmenting}
use Rattle.solve_augment.proofs.augment.Given as goal

abbrev pub invariant-loop-j : goal.invariant-loop-j
invariant-loop-j l = Augmenting l.arcs l.rows l.via l.ends l.way.len l.way.target l.way.delta l.initial.flows l.initial.margins l.flows l.margins l.at l.j

-- `count_all` meets its contract: the numbers passed are counted, by size.
use lib.ListN.{take}
use Rattle.survey_def.proofs.Turns.{Tallied}
use Rattle.survey_count.proofs.count_all.Given as goal

abbrev pub invariant-loop-m : goal.invariant-loop-m
invariant-loop-m l = Tallied (take l.n l.streams) l.counts l.m

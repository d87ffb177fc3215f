-- `ones_of` meets its contract: the ones among the bits passed are counted.
use mathlib.Core.Path.{◌≡◌}
use Rattle.survey_def.specs.Inner.{ones}
use Rattle.survey_count.proofs.ones_of.Given as goal

abbrev pub invariant-loop-j : goal.invariant-loop-j
invariant-loop-j l = l.size ≡ ones l.j l.m

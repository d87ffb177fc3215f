-- After i turns those of the first i streams are bought that are to be.
use mathlib.Core.Path.{◌≡◌}
use lib.ListN.{get_or}
use Rattle.plant_def.specs.Says.{plant_of}
use Rattle.purchase_def.specs.Views.{held_as}
use Rattle.purchase_def.specs.Choosing.{bought}
use Rattle.purchase_choose.proofs.Telling.{so_far}
use Rattle.purchase_choose.proofs.choose.Given as goal

abbrev pub invariant-loop-i : goal.invariant-loop-i
invariant-loop-i l = held_as l.b ≡ so_far (λ k. get_or l.prices k 0) (bought (plant_of l.p) (λ k. get_or l.prices k 0)) l.i

-- `sheet_entries::classes_of` meets its contract: after i turns the first i classes are written.
use Rattle.plant_def.specs.Limits.{max_streams}
use Rattle.plant_def.specs.Says.{plant_of}
use Rattle.flow_def.specs.declared.Class.TheVariants.{Withheld}
use Rattle.flow_def.specs.Classes.{class_of}
use Rattle.num_bytes.proofs.Lists.{Written}
use Rattle.sheet_entries.proofs.classes_of.Given as goal

abbrev pub invariant-loop-i : goal.invariant-loop-i
invariant-loop-i l = Written Withheld max_streams (λ k x. class_of (plant_of l.p) k) l.initial.classes l.classes l.i

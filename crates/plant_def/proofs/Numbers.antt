-- Every refusal has a number: none is 0.
use mathlib.Core.Path.{◌≡◌}
use native.Mathlib.Omega.{arith}
use Rattle.plant_def.specs.declared.refusal.Refusal.{Refusal}
use Rattle.plant_def.specs.declared.refusal.Refusal.TheVariants.{SliceTooShort, NoSheetNumber, FileEnds, Kind, TooManyStreams, Units, Place, SamePlace, Weight}
use Rattle.plant_def.specs.declared.refusal.Refusal.TheVariants.{Reading, EndCount, AfterEnd, SheetRecord, SheetTotal, AfterTotal, Value, Deviation, Range}
use Rattle.plant_def.specs.declared.refusal.Refusal.TheVariants.{NoFlow, Narrower, Prices, NoOffice, TooManyToSurvey, Rates, ChargeWithheld, RuleBroken}
use Rattle.plant_def.specs.Refused.{refusal_number}

-- No refusal has the number 0.
pub some_number : (e : Refusal) → refusal_number e ≡ 0 → ⊥
some_number SliceTooShort z = omega arith
some_number NoSheetNumber z = omega arith
some_number FileEnds z = omega arith
some_number Kind z = omega arith
some_number TooManyStreams z = omega arith
some_number Units z = omega arith
some_number Place z = omega arith
some_number SamePlace z = omega arith
some_number Weight z = omega arith
some_number Reading z = omega arith
some_number EndCount z = omega arith
some_number AfterEnd z = omega arith
some_number SheetRecord z = omega arith
some_number SheetTotal z = omega arith
some_number AfterTotal z = omega arith
some_number Value z = omega arith
some_number Deviation z = omega arith
some_number Range z = omega arith
some_number NoFlow z = omega arith
some_number Narrower z = omega arith
some_number Prices z = omega arith
some_number NoOffice z = omega arith
some_number TooManyToSurvey z = omega arith
some_number Rates z = omega arith
some_number ChargeWithheld z = omega arith
some_number RuleBroken z = omega arith

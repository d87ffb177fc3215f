-- The numbers of refusals, and of what a check hands over.
use Rattle.std.specs.Prelude.{ℕ, Result, Ok, Err}
use Rattle.plant_def.specs.declared.refusal.Refusal.{Refusal}
use Rattle.plant_def.specs.declared.refusal.Refusal.TheVariants.{SliceTooShort, NoSheetNumber, FileEnds, Kind, TooManyStreams, Units, Place, SamePlace, Weight}
use Rattle.plant_def.specs.declared.refusal.Refusal.TheVariants.{Reading, EndCount, AfterEnd, SheetRecord, SheetTotal, AfterTotal, Value, Deviation, Range}
use Rattle.plant_def.specs.declared.refusal.Refusal.TheVariants.{NoFlow, Narrower, Prices, NoOffice, TooManyToSurvey, Rates, ChargeWithheld, RuleBroken}

-- Each refusal's number.
abbrev pub refusal_number : Refusal → ℕ
refusal_number SliceTooShort = 1
refusal_number NoSheetNumber = 2
refusal_number FileEnds = 3
refusal_number Kind = 4
refusal_number TooManyStreams = 5
refusal_number Units = 6
refusal_number Place = 7
refusal_number SamePlace = 8
refusal_number Weight = 9
refusal_number Reading = 10
refusal_number EndCount = 11
refusal_number AfterEnd = 12
refusal_number SheetRecord = 13
refusal_number SheetTotal = 14
refusal_number AfterTotal = 15
refusal_number Value = 16
refusal_number Deviation = 17
refusal_number Range = 18
refusal_number NoFlow = 19
refusal_number Narrower = 20
refusal_number Prices = 21
refusal_number NoOffice = 22
refusal_number TooManyToSurvey = 23
refusal_number Rates = 24
refusal_number ChargeWithheld = 25
refusal_number RuleBroken = 26

-- The number of a check: 0 where nothing is refused.
abbrev pub fault_in : Result Unit Refusal → ℕ
fault_in (Ok u) = 0
fault_in (Err e) = refusal_number e

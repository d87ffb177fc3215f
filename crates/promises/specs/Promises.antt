-- Every public theorem, in one record. docs/PROMISES.md follows it field by field.
use Rattle.plant_def.specs.Says.{LongestFile, FileRefusals}
use Rattle.plant_def.specs.Refusals.{RefusedFiles}
use Rattle.plant_lent.specs.Trip.{PartsTrip}
use Rattle.sheet_def.specs.Demands.{Demands}
use Rattle.sheet_history.specs.History.{History}
use Rattle.listing_lines.specs.Room.{OneText}
use Rattle.listing_call.specs.Says.{ListSays}
use Rattle.listing_call.specs.Printed.{Printed}
use Rattle.transmitter_def.specs.Answers.{Numbered}
use Rattle.transmitter_def.specs.Rounding.{Rounding}
use Rattle.transmitter_def.specs.Says.{Translated}
use Rattle.transmitter_def.specs.Sendings.{SentFiles}
use Rattle.ranged_def.specs.Trip.{Moving}
use Rattle.ranged_same_sheet.specs.Same.{MovedSheets}
use Rattle.purchase_def.specs.Says.{MetersToBuy}
use Rattle.survey_def.specs.Says.{OneSurvey}
use Rattle.survey_answers.specs.Says as Survey-texts
use Rattle.visit_def.specs.Says.{MetersWorthAVisit}
use Rattle.visit_text.specs.Says as Visit-texts
use Rattle.charge_def.specs.Says.{SteamCharges}
use Rattle.foreign_def.specs.Says.{ForeignSheets}
use Rattle.foreign_def.specs.Numbers.{OwnNumbers}
use Rattle.certify_sheets.specs.Promise.{FlowsFoundElsewhere}
use Rattle.promises.specs.Bounds.{Without19, Bounds}
use Rattle.promises.specs.SheetCalls.{SheetCalls}
use Rattle.promises.specs.Once.{LentOnce}

-- All that is promised.
pub record Promises : Type 0 where
  -- The exported calls: the sheet call, by the sentences of the demands below; and those that hand an answer over in lent slices leave no
  -- choice of what is found. (Of the numbers of places every choice serves: `own_numbers`.)
  pub sheet_calls : SheetCalls
  pub lent_once : LentOnce
  -- Plant files: how long one is at most, and with which numbers it is refused: with which at all, and with which one. (Which are read, and
  -- as what, is a demand.)
  pub longest_file_lem : LongestFile
  pub file_refusals : FileRefusals
  pub refused_files : RefusedFiles
  -- The exported plant writer and plant reader undo each other, both ways.
  pub parts_trip : PartsTrip
  -- Sheets: the demands; the sheet numbers of the offices, over any calls; what `balance` prints.
  pub demands : Demands
  pub history : History
  pub one_text : OneText ListSays
  pub printed : Printed
  -- Transmitter files: which are read, as what, and how the others are refused; rounding, the numbers of the two answers, and what comes out.
  pub sent_files : SentFiles
  pub rounding : Rounding
  pub numbered : Numbered
  pub translated : Translated
  -- Moves: there and home, and the same sheet in the ranged form.
  pub moving : Moving
  pub moved_sheets : MovedSheets
  -- Meters to buy; layouts of meters, and their text; meters worth a visit, and their text.
  pub meters_to_buy : MetersToBuy
  pub one_survey : OneSurvey
  pub layouts : OneText Survey-texts.TextSays
  pub meters_worth_a_visit : MetersWorthAVisit
  pub visits : OneText Visit-texts.TextSays
  -- Steam charges.
  pub steam_charges : SteamCharges
  -- Sheets drawn up elsewhere, and numbers of the places of our own.
  pub foreign_sheets : ForeignSheets
  pub own_numbers : OwnNumbers
  -- Flows found elsewhere, over wide numbers.
  pub flows_found_elsewhere : FlowsFoundElsewhere
  -- Numbers that are never given, and bounds.
  pub without_19 : Without19
  pub bounds : Bounds

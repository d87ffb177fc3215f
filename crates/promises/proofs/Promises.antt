-- Every promise is kept.
use Rattle.plant_def.proofs.Refusals.{file_refusals}
use Rattle.plant_def.proofs.Amiss.{refused_files}
use Rattle.plant_def.proofs.Longest.{longest_file_lem}
use Rattle.plant_lent.proofs.Trip.{parts_trip}
use Rattle.sheet_def.proofs.Demands.{demands}
use Rattle.sheet_history.proofs.History.{history}
use Rattle.listing_call.proofs.Promise.{one_text}
use Rattle.listing_call.proofs.Printed.{printed}
use Rattle.transmitter_def.proofs.Rules.{rounding}
use Rattle.transmitter_def.proofs.Numbers.{numbered}
use Rattle.transmitter_def.proofs.Promise.{translated}
use Rattle.transmitter_def.proofs.Amiss.{sent_files}
use Rattle.ranged_def.proofs.Trip.{moving}
use Rattle.ranged_same_sheet.proofs.Same.{moved_sheets}
use Rattle.purchase_def.proofs.Promise.{meters_to_buy}
use Rattle.survey_def.proofs.Promise.{one_survey}
use Rattle.survey_answers.proofs.Promise as Survey-texts
use Rattle.visit_def.proofs.Promise.{meters_worth_a_visit}
use Rattle.visit_text.proofs.Promise as Visit-texts
use Rattle.charge_def.proofs.Promise.{steam_charges}
use Rattle.foreign_def.proofs.Promise.{foreign_sheets, own_numbers}
use Rattle.certify_sheets.proofs.Promise.{flows_found_elsewhere}
use Rattle.promises.specs.Promises.{Promises}
use Rattle.promises.proofs.Bounds.{without_19, bounds}
use Rattle.promises.proofs.SheetCalls.{sheet_calls}
use Rattle.promises.proofs.Once.{lent_once}

-- The record of all promises.
pub promises : Promises
promises = record {
  sheet_calls = sheet_calls;
  lent_once = lent_once;
  longest_file_lem = longest_file_lem;
  file_refusals = file_refusals;
  refused_files = refused_files;
  parts_trip = parts_trip;
  demands = demands;
  history = history;
  one_text = one_text;
  printed = printed;
  sent_files = sent_files;
  rounding = rounding;
  numbered = numbered;
  translated = translated;
  moving = moving;
  moved_sheets = moved_sheets;
  meters_to_buy = meters_to_buy;
  one_survey = one_survey;
  layouts = Survey-texts.one_text;
  meters_worth_a_visit = meters_worth_a_visit;
  visits = Visit-texts.one_text;
  steam_charges = steam_charges;
  foreign_sheets = foreign_sheets;
  own_numbers = own_numbers;
  flows_found_elsewhere = flows_found_elsewhere;
  without_19 = without_19;
  bounds = bounds;
}

-- The end of the archive: the exported functions themselves, by the compiler's names for them, keep the contracts that the promises begin with.
use Rattle.wengeludo_c.proofs.wengeludo_version.Statement as Version
use Rattle.wengeludo_c.proofs.wengeludo_balance_plant.Statement as BalancePlant
use Rattle.wengeludo_c.proofs.wengeludo_write_plant.Statement as WritePlant
use Rattle.wengeludo_c.proofs.wengeludo_read_plant.Statement as ReadPlant
use Rattle.wengeludo_c.proofs.wengeludo_read_sheet.Statement as ReadSheet
use Rattle.wengeludo_c.proofs.wengeludo_plant_from_transmitter.Statement as PlantFromTransmitter
use Rattle.wengeludo_c.proofs.wengeludo_to_ranged.Statement as ToRanged
use Rattle.wengeludo_c.proofs.wengeludo_from_ranged.Statement as FromRanged
use Rattle.wengeludo_c.proofs.wengeludo_meters_to_buy.Statement as MetersToBuy
use Rattle.wengeludo_c.proofs.wengeludo_layouts_of.Statement as LayoutsOf
use Rattle.wengeludo_c.proofs.wengeludo_visits.Statement as Visits
use Rattle.wengeludo_c.proofs.wengeludo_charges.Statement as Charges
use Rattle.wengeludo_c.proofs.wengeludo_check_sheet.Statement as CheckSheet
use Rattle.wengeludo_c.proofs.wengeludo_place_numbers.Statement as PlaceNumbers
use Rattle.wengeludo_c.proofs.wengeludo_check_flow.Statement as CheckFlow
use Rattle.wengeludo_c.proofs.wengeludo_version.Met as VersionMet
use Rattle.wengeludo_c.proofs.wengeludo_balance_plant.Met as BalancePlantMet
use Rattle.wengeludo_c.proofs.wengeludo_write_plant.Met as WritePlantMet
use Rattle.wengeludo_c.proofs.wengeludo_read_plant.Met as ReadPlantMet
use Rattle.wengeludo_c.proofs.wengeludo_read_sheet.Met as ReadSheetMet
use Rattle.wengeludo_c.proofs.wengeludo_plant_from_transmitter.Met as PlantFromTransmitterMet
use Rattle.wengeludo_c.proofs.wengeludo_to_ranged.Met as ToRangedMet
use Rattle.wengeludo_c.proofs.wengeludo_from_ranged.Met as FromRangedMet
use Rattle.wengeludo_c.proofs.wengeludo_meters_to_buy.Met as MetersToBuyMet
use Rattle.wengeludo_c.proofs.wengeludo_layouts_of.Met as LayoutsOfMet
use Rattle.wengeludo_c.proofs.wengeludo_visits.Met as VisitsMet
use Rattle.wengeludo_c.proofs.wengeludo_charges.Met as ChargesMet
use Rattle.wengeludo_c.proofs.wengeludo_check_sheet.Met as CheckSheetMet
use Rattle.wengeludo_c.proofs.wengeludo_place_numbers.Met as PlaceNumbersMet
use Rattle.wengeludo_c.proofs.wengeludo_check_flow.Met as CheckFlowMet
use Rattle.promises.specs.Promises.{Promises}
use Rattle.promises.proofs.Promises.{promises}

-- Each exported function meets its contract in every model of the machine, and what follows from the contracts are the promises.
pub record Exported : Type 2 where
  pub version : (M : Type 1) → Version.statement M
  pub balance_plant : (M : Type 1) → BalancePlant.statement M
  pub write_plant : (M : Type 1) → WritePlant.statement M
  pub read_plant : (M : Type 1) → ReadPlant.statement M
  pub read_sheet : (M : Type 1) → ReadSheet.statement M
  pub plant_from_transmitter : (M : Type 1) → PlantFromTransmitter.statement M
  pub to_ranged : (M : Type 1) → ToRanged.statement M
  pub from_ranged : (M : Type 1) → FromRanged.statement M
  pub meters_to_buy : (M : Type 1) → MetersToBuy.statement M
  pub layouts_of : (M : Type 1) → LayoutsOf.statement M
  pub visits : (M : Type 1) → Visits.statement M
  pub charges : (M : Type 1) → Charges.statement M
  pub check_sheet : (M : Type 1) → CheckSheet.statement M
  pub place_numbers : (M : Type 1) → PlaceNumbers.statement M
  pub check_flow : (M : Type 1) → CheckFlow.statement M
  pub promises : Promises

-- They do.
pub exported : Exported
exported = record {
  version = λ M. VersionMet.met;
  balance_plant = λ M. BalancePlantMet.met;
  write_plant = λ M. WritePlantMet.met;
  read_plant = λ M. ReadPlantMet.met;
  read_sheet = λ M. ReadSheetMet.met;
  plant_from_transmitter = λ M. PlantFromTransmitterMet.met;
  to_ranged = λ M. ToRangedMet.met;
  from_ranged = λ M. FromRangedMet.met;
  meters_to_buy = λ M. MetersToBuyMet.met;
  layouts_of = λ M. LayoutsOfMet.met;
  visits = λ M. VisitsMet.met;
  charges = λ M. ChargesMet.met;
  check_sheet = λ M. CheckSheetMet.met;
  place_numbers = λ M. PlaceNumbersMet.met;
  check_flow = λ M. CheckFlowMet.met;
  promises = promises;
}

-- The end: the functions that are exported, by the compiler's names for them in the library `wengeludo`, keep the contracts that the
-- promises begin with. (`wengeludo_c` exports each under its name, by one call and with the same clauses.)
use Rattle.wengeludo.proofs.wengeludo_version.Statement as Version
use Rattle.wengeludo.proofs.wengeludo_balance_plant.Statement as BalancePlant
use Rattle.wengeludo.proofs.wengeludo_write_plant.Statement as WritePlant
use Rattle.wengeludo.proofs.wengeludo_read_plant.Statement as ReadPlant
use Rattle.wengeludo.proofs.wengeludo_read_sheet.Statement as ReadSheet
use Rattle.wengeludo.proofs.wengeludo_plant_from_transmitter.Statement as PlantFromTransmitter
use Rattle.wengeludo.proofs.wengeludo_to_ranged.Statement as ToRanged
use Rattle.wengeludo.proofs.wengeludo_from_ranged.Statement as FromRanged
use Rattle.wengeludo.proofs.wengeludo_meters_to_buy.Statement as MetersToBuy
use Rattle.wengeludo.proofs.wengeludo_layouts_of.Statement as LayoutsOf
use Rattle.wengeludo.proofs.wengeludo_visits.Statement as Visits
use Rattle.wengeludo.proofs.wengeludo_charges.Statement as Charges
use Rattle.wengeludo.proofs.wengeludo_check_sheet.Statement as CheckSheet
use Rattle.wengeludo.proofs.wengeludo_place_numbers.Statement as PlaceNumbers
use Rattle.wengeludo.proofs.wengeludo_check_flow.Statement as CheckFlow
use Rattle.promises.specs.Promises.{Promises}

-- Each exported function meets its contract in every model of the machine (`Statement` is made by the compiler from the line `ensures`
-- of src/), and what follows from the contracts are the promises.
pub record Engine : Type 2 where
  pub version : (M : Type 1) → Version.statement M
  pub balance_plant : (M : Type 1) → BalancePlant.statement M
  pub write_plant : (M : Type 1) → WritePlant.statement M
  pub read_plant : (M : Type 1) → ReadPlant.statement M
  pub read_sheet : (M : Type 1) → ReadSheet.statement M
  pub plant_from_transmitter : (M : Type 1) → PlantFromTransmitter.statement M
  pub to_ranged : (M : Type 1) → ToRanged.statement M
  pub from_ranged : (M : Type 1) → FromRanged.statement M
  pub meters_to_buy : (M : Type 1) → MetersToBuy.statement M
  pub layouts_of : (M : Type 1) → LayoutsOf.statement M
  pub visits : (M : Type 1) → Visits.statement M
  pub charges : (M : Type 1) → Charges.statement M
  pub check_sheet : (M : Type 1) → CheckSheet.statement M
  pub place_numbers : (M : Type 1) → PlaceNumbers.statement M
  pub check_flow : (M : Type 1) → CheckFlow.statement M
  pub promises : Promises

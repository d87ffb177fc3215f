-- The engine is proved.
use Rattle.wengeludo.proofs.wengeludo_version.Met as Version
use Rattle.wengeludo.proofs.wengeludo_balance_plant.Met as BalancePlant
use Rattle.wengeludo.proofs.wengeludo_write_plant.Met as WritePlant
use Rattle.wengeludo.proofs.wengeludo_read_plant.Met as ReadPlant
use Rattle.wengeludo.proofs.wengeludo_read_sheet.Met as ReadSheet
use Rattle.wengeludo.proofs.wengeludo_plant_from_transmitter.Met as PlantFromTransmitter
use Rattle.wengeludo.proofs.wengeludo_to_ranged.Met as ToRanged
use Rattle.wengeludo.proofs.wengeludo_from_ranged.Met as FromRanged
use Rattle.wengeludo.proofs.wengeludo_meters_to_buy.Met as MetersToBuy
use Rattle.wengeludo.proofs.wengeludo_layouts_of.Met as LayoutsOf
use Rattle.wengeludo.proofs.wengeludo_visits.Met as Visits
use Rattle.wengeludo.proofs.wengeludo_charges.Met as Charges
use Rattle.wengeludo.proofs.wengeludo_check_sheet.Met as CheckSheet
use Rattle.wengeludo.proofs.wengeludo_place_numbers.Met as PlaceNumbers
use Rattle.wengeludo.proofs.wengeludo_check_flow.Met as CheckFlow
use Rattle.promises.specs.Engine.{Engine}
use Rattle.promises.proofs.Promises.{promises}

-- Every exported function as it was proved, and all promises.
pub engine : Engine
engine = record {
  version = λ M. Version.met;
  balance_plant = λ M. BalancePlant.met;
  write_plant = λ M. WritePlant.met;
  read_plant = λ M. ReadPlant.met;
  read_sheet = λ M. ReadSheet.met;
  plant_from_transmitter = λ M. PlantFromTransmitter.met;
  to_ranged = λ M. ToRanged.met;
  from_ranged = λ M. FromRanged.met;
  meters_to_buy = λ M. MetersToBuy.met;
  layouts_of = λ M. LayoutsOf.met;
  visits = λ M. Visits.met;
  charges = λ M. Charges.met;
  check_sheet = λ M. CheckSheet.met;
  place_numbers = λ M. PlaceNumbers.met;
  check_flow = λ M. CheckFlow.met;
  promises = promises;
}

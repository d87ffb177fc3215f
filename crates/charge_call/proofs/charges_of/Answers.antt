-- By what was read.
use mathlib.Core.Path.{refl}
use Rattle.std.specs.Prelude.{Ok}
use Rattle.std.proofs.lemmas.Result.{err_from_is_err_and}
use Rattle.plant_def.specs.Views.{read_as}
use Rattle.plant_def.specs.Within.{Accepted}
use Rattle.plant_def.proofs.Found.{plant_accepted}
use Rattle.charge_def.specs.Views.{charges_as}
use Rattle.charge_def.proofs.Answering.{small_read, answered}
use Rattle.charge_call.proofs.Reading.{file_refused}
use Rattle.charge_call.proofs.charges_of.Goals as goal
use Rattle.charge_call.proofs.charges_of.Goals.{In_ok-plant}

-- The plant that was read is accepted.
taken : (c : In_ok-plant) → Accepted c.in_ok-plant.plant
taken c = plant_accepted c.args.file.now (read_as (Ok c.in_ok-plant.plant)) c.in_ok-plant.ensures refl

pub returns-in_err-plant : goal.returns-in_err-plant
returns-in_err-plant c =
    let p = err_from_is_err_and c.from_residual.result c.from_residual.ensures.1 in
    rw (p.1, p.2) (file_refused c.args.file.now c.args.rates.now _ c.in_err-plant.ensures)

pub balance_of-outcome-requires : goal.balance_of-outcome-requires
balance_of-outcome-requires c = taken (goal.at.balance_of-outcome-requires c).In_ok-plant

pub bill_outcome-requires : goal.bill_outcome-requires
bill_outcome-requires c = (
  taken (goal.at.bill_outcome-requires c).In_ok-plant,
  c.balance_of-outcome.ensures,
  small_read c.args.file.now (read_as (Ok c.in_ok-plant.plant)) c.in_ok-plant.ensures refl c.balance_of-outcome.result c.balance_of-outcome.ensures,
)

pub returns : goal.returns
returns c =
    answered c.args.file.now c.args.rates.now (read_as (Ok c.in_ok-plant.plant)) c.in_ok-plant.ensures
    (charges_as c.bill_outcome.result) refl c.bill_outcome.ensures

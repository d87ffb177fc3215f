-- By what was found, in the order of the refusals.
use mathlib.Core.Path.{refl, sym}
use Rattle.std.specs.Prelude.{Ok}
use Rattle.std.proofs.lemmas.Result.{err_from_is_err_and}
use Rattle.plant_def.specs.Within.{Accepted}
use Rattle.plant_def.specs.Says.{plant_of}
use Rattle.plant_def.specs.Views.{read_as}
use Rattle.plant_def.proofs.Found.{plant_accepted}
use Rattle.plant_def.proofs.Numbers.{some_number}
use Rattle.purchase_call.proofs.Answering.{held_low, best_bought, mispriced, answered, file_refused}
use Rattle.purchase_call.proofs.meters_to_buy.Goals as goal

pub returns-in_err-plant : goal.returns-in_err-plant
returns-in_err-plant c =
    let a = c.args in
    let p = err_from_is_err_and c.from_residual.result c.from_residual.ensures.1 in
    rw (p.1, p.2) (file_refused a.file.now a.prices.now _ c.in_err-plant.ensures)

pub check_prices-requires : goal.check_prices-requires
check_prices-requires c = plant_accepted c.args.file.now (read_as (Ok c.in_ok-plant.plant)) c.in_ok-plant.ensures refl

pub returns-in_err-check_prices : goal.returns-in_err-check_prices
returns-in_err-check_prices c =
    let a = c.args in
    let p = err_from_is_err_and c.from_residual-in_err-check_prices.result c.from_residual-in_err-check_prices.ensures.1 in
    rw (p.1, p.2)
    (answered a.file.now a.prices.now (read_as (Ok c.in_ok-plant.plant)) c.in_ok-plant.ensures _ refl
    (mispriced (plant_of c.in_ok-plant.plant) a.prices.now _ c.in_err-check_prices.ensures (some_number _) _ refl))

pub by_stream-each-requires : goal.by_stream-each-requires
by_stream-each-requires c = plant_accepted c.args.file.now (read_as (Ok c.in_ok-plant.plant)) c.in_ok-plant.ensures refl

pub choose-requires : goal.choose-requires
choose-requires c =
    let accepted : Accepted c.in_ok-plant.plant = plant_accepted c.args.file.now (read_as (Ok c.in_ok-plant.plant)) c.in_ok-plant.ensures refl in
    (accepted, held_low _ accepted c.args.prices.now _ (sym c.in_ok-check_prices.ensures) c.by_stream-each.ensures)

pub returns : goal.returns
returns c =
    let a = c.args in
    let accepted : Accepted c.in_ok-plant.plant = plant_accepted a.file.now (read_as (Ok c.in_ok-plant.plant)) c.in_ok-plant.ensures refl in
    answered a.file.now a.prices.now (read_as (Ok c.in_ok-plant.plant)) c.in_ok-plant.ensures _ refl
    (best_bought _ accepted a.prices.now _ (sym c.in_ok-check_prices.ensures) c.by_stream-each.ensures _ c.choose.ensures)

-- By what was found, in the order of the refusals.
use native.Mathlib.Omega.{arith}
use mathlib.Core.Path.{refl, sym, ◌∙◌}
use Rattle.plant_def.proofs.Found.{plant_accepted}
use Rattle.plant_def.proofs.Numbers.{some_number}
use Rattle.flow_def.specs.Overfull.{unmarked}
use Rattle.sheet_call.proofs.Answered.{call_refused, file_refused, outcome_drawn}
use Rattle.sheet_call.proofs.balance_plant.Goals as goal

pub returns-in-Err : goal.returns-in-Err
returns-in-Err c =
    let a = c.args in
    call_refused a.file.now a.office a.lasts a.sheet.now c.number.result c.refused.result (c.number.ensures ∙ c.in-Err.ensures)
    (λ z. some_number c.in-Err.fault (sym c.number.ensures ∙ z)) c.refused.ensures

pub returns-in-Err-read_plant : goal.returns-in-Err-read_plant
returns-in-Err-read_plant c =
    let a = c.args in
    file_refused a.file.now a.office a.lasts a.sheet.now 0 c.in-Ok.ensures refl _ c.in-Err-read_plant.ensures _
    (some_number c.in-Err-read_plant.e)
    (c.refused-in-Err-read_plant.ensures ∙ (λ i. record { number = c.number-in-Err-read_plant.ensures i; written = 0; lasts = a.lasts; marked = unmarked }))

pub balance_of-outcome-requires : goal.balance_of-outcome-requires
balance_of-outcome-requires c = plant_accepted c.args.file.now _ c.in-Ok-read_plant.ensures refl

pub draw-requires : goal.draw-requires
draw-requires c =
    let few = (plant_accepted c.args.file.now _ c.in-Ok-read_plant.ensures refl).within.few_streams in
    (omega (arith, few), sym c.in-Ok.ensures)

pub returns : goal.returns
returns c =
    let a = c.args in
    outcome_drawn a.file.now a.office a.lasts a.sheet.now 0 c.in-Ok.ensures refl _ c.in-Ok-read_plant.ensures refl
    _ c.draw.result c.balance_of-outcome.result c.balance_of-outcome.ensures c.draw.ensures

-- By what was read, then by what the solver found.
use Rattle.std.specs.Prelude.{Ok, Err}
use mathlib.Core.Path.{refl}
use Rattle.std.proofs.lemmas.Result.{err_from_is_err_and}
use Rattle.plant_def.specs.Within.{Accepted}
use Rattle.plant_def.specs.Views.{read_as}
use Rattle.plant_def.proofs.Numbers.{some_number}
use Rattle.plant_def.proofs.Found.{plant_accepted}
use Rattle.solve_def.proofs.Theorem.{network_of}
use Rattle.solve_arcs_fill.proofs.Plants.{no_arc}
use Rattle.foreign_def.specs.Views.{numbers_as}
use Rattle.foreign_numbers.proofs.Numbering.{says_unread, says_numbers}
use Rattle.foreign_numbers.proofs.place_numbers.Goals as goal
use Rattle.foreign_numbers.proofs.place_numbers.Goals.{In_ok-plant}

-- A plant that was read is accepted.
able : (c : In_ok-plant) → Accepted c.in_ok-plant.plant
able c = plant_accepted c.args.file.now (read_as (Ok c.in_ok-plant.plant)) c.in_ok-plant.ensures refl

pub returns-in_err-plant : goal.returns-in_err-plant
returns-in_err-plant c =
    let p = err_from_is_err_and c.from_residual.result c.from_residual.ensures.1 in
    rw (p.1, p.2)
    (says_unread c.args.file.now (read_as (Err c.in_err-plant.field-0.0)) c.in_err-plant.ensures (numbers_as (Err c.in_err-plant.field-0.0)) (some_number _) refl)

pub lay-requires : goal.lay-requires
lay-requires c = (network_of _ (able (goal.at.lay-requires c).In_ok-plant), refl, no_arc, refl)

pub group-labels-requires : goal.group-labels-requires
group-labels-requires c =
    (c.in_ok-plant.plant, record { accepted = able (goal.at.group-labels-requires c).In_ok-plant; laid = c.lay.ensures })

pub solve-solved-requires : goal.solve-solved-requires
solve-solved-requires c =
    let p = c.in_ok-plant.plant in (
      p,
      record { accepted = able (goal.at.solve-solved-requires c).In_ok-plant; laid = c.lay.ensures },
      refl,
      c.group-labels.ensures p (record { accepted = able (goal.at.solve-solved-requires c).In_ok-plant; laid = c.lay.ensures }),
    )

pub numbers_by-requires : goal.numbers_by-requires
numbers_by-requires c =
    let p = c.in_ok-plant.plant in (
      able (goal.at.numbers_by-requires c).In_ok-plant,
      c.solve-solved.ensures.0 p (record { accepted = able (goal.at.numbers_by-requires c).In_ok-plant; laid = c.lay.ensures }) refl
          (c.group-labels.ensures p (record { accepted = able (goal.at.numbers_by-requires c).In_ok-plant; laid = c.lay.ensures })),
    )

pub returns : goal.returns
returns c =
    says_numbers c.args.file.now (read_as (Ok c.in_ok-plant.plant)) c.in_ok-plant.ensures (numbers_as c.numbers_by.result) refl c.numbers_by.ensures

-- By what was found, in the order of the refusals.
use mathlib.Core.Path.{refl}
use borrow.Author.Tests.{not-true, not-false}
use Rattle.std.specs.Prelude.{Ok, Err}
use Rattle.std.proofs.lemmas.Result.{err_from_is_err_and}
use Rattle.plant_def.specs.declared.refusal.Refusal.TheVariants.{NoFlow}
use Rattle.plant_def.specs.Views.{read_as}
use Rattle.plant_def.specs.Within.{Accepted}
use Rattle.plant_def.specs.Says.{plant_of}
use Rattle.plant_def.proofs.Arrayed.{within_of}
use Rattle.plant_def.proofs.Found.{plant_accepted}
use Rattle.plant_def.proofs.Numbers.{some_number}
use Rattle.solve_def.specs.Promise.{Right}
use Rattle.solve_def.proofs.Theorem.{network_of}
use Rattle.solve_arcs_fill.proofs.Plants.{no_arc}
use Rattle.sheet_def.proofs.Opening.{right_found, right_overfull}
use Rattle.visit_def.specs.Visits.{Feasible}
use Rattle.visit_def.specs.Views.{listed_as, visits_as}
use Rattle.visit_def.proofs.Promise.{unread, answered, none_balanced}
use Rattle.visit_call.proofs.Told.{solved_feasible, told}
use Rattle.visit_call.proofs.visits_of.Goals as goal
use Rattle.visit_call.proofs.visits_of.Goals.{In_ok-plant, After-solve-solved, Else-not-solved}

-- The plant that was read is accepted.
taken : (c : In_ok-plant) → Accepted c.in_ok-plant.plant
taken c = plant_accepted c.args.file.now (read_as (Ok c.in_ok-plant.plant)) c.in_ok-plant.ensures refl

-- What the solver hands over is right.
right : (c : After-solve-solved) → Accepted c.in_ok-plant.plant → Right c.in_ok-plant.plant c.solve-solved.result
right c a =
    c.solve-solved.ensures.0 c.in_ok-plant.plant (record { accepted = a; laid = c.lay.ensures }) refl
    (c.bridges_of-bridges.ensures c.in_ok-plant.plant (record { accepted = a; laid = c.lay.ensures })).grouped

-- It has a flow in range.
solved : (c : Else-not-solved) → Right c.in_ok-plant.plant c.solve-solved.result → Feasible (plant_of c.in_ok-plant.plant)
solved c r = solved_feasible _ c.solve-solved.result (right_found _ c.solve-solved.result r (not-false c.solve-solved.result.found c.if-not-solved.false))

pub returns-in_err-plant : goal.returns-in_err-plant
returns-in_err-plant c =
    let p = err_from_is_err_and c.from_residual.result c.from_residual.ensures.1 in
    rw (p.1, p.2) (unread c.args.file.now _ c.in_err-plant.ensures _ (some_number _) refl)

pub lay-requires : goal.lay-requires
lay-requires c = (network_of _ (taken (goal.at.lay-requires c).In_ok-plant), refl, no_arc, refl)

pub bridges_of-bridges-requires : goal.bridges_of-bridges-requires
bridges_of-bridges-requires c =
    (c.in_ok-plant.plant, record { accepted = taken (goal.at.bridges_of-bridges-requires c).In_ok-plant; laid = c.lay.ensures })

pub solve-solved-requires : goal.solve-solved-requires
solve-solved-requires c =
    let p = c.in_ok-plant.plant in
    let a = taken (goal.at.solve-solved-requires c).In_ok-plant in
    (p, record { accepted = a; laid = c.lay.ensures }, refl, (c.bridges_of-bridges.ensures p (record { accepted = a; laid = c.lay.ensures })).grouped)

pub returns-then-not-solved : goal.returns-then-not-solved
returns-then-not-solved c =
    let p = c.in_ok-plant.plant in
    let at = goal.at.returns-then-not-solved c in
    let a = taken at.In_ok-plant in
    answered c.args.file.now (read_as (Ok p)) c.in_ok-plant.ensures (visits_as (Err NoFlow)) refl
    (none_balanced _ (within_of p a) (visits_as (Err NoFlow)) c.solve-solved.result.marked
    (right_overfull _ c.solve-solved.result (right at.After-solve-solved a) (not-true c.solve-solved.result.found c.if-not-solved.true)) refl)

pub classes_of-classes-requires : goal.classes_of-classes-requires
classes_of-classes-requires c =
    let a = taken (goal.at.classes_of-classes-requires c).In_ok-plant in
    (a, c.bridges_of-bridges.ensures c.in_ok-plant.plant (record { accepted = a; laid = c.lay.ensures }))

pub costs_without-costs-requires : goal.costs_without-costs-requires
costs_without-costs-requires c =
    let at = goal.at.costs_without-costs-requires c in
    let a = taken at.In_ok-plant in
    (a, solved at.Else-not-solved (right at.After-solve-solved a))

pub list_by-requires : goal.list_by-requires
list_by-requires c = (taken (goal.at.list_by-requires c).In_ok-plant).within.few_streams

pub returns : goal.returns
returns c =
    let p = c.in_ok-plant.plant in
    let at = goal.at.returns c in
    let a = taken at.In_ok-plant in
    answered c.args.file.now (read_as (Ok p)) c.in_ok-plant.ensures (listed_as c.list_by.result) refl
    (told p a (solved at.Else-not-solved (right at.After-solve-solved a)) c.classes_of-classes.result c.classes_of-classes.ensures
    c.adjusted_of-listed.result c.adjusted_of-listed.ensures c.costs_without-costs.result c.costs_without-costs.ensures (listed_as c.list_by.result) c.list_by.ensures)

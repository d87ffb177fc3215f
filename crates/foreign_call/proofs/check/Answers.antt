-- By what was read, in the order of the refusals, then by the rules.
use Rattle.std.specs.Prelude.{Ok, Err}
use mathlib.Core.Path.{◌≡◌, refl, sym, ◌∙◌}
use mathlib.Core.Bool.{Bool, true, false}
use Rattle.std.proofs.lemmas.Result.{err_from_is_err_and}
use Rattle.num_bytes.specs.Choice.{pick}
use Rattle.plant_def.specs.Views.{read_as}
use Rattle.plant_def.proofs.Numbers.{some_number}
use Rattle.plant_def.proofs.Found.{plant_accepted}
use Rattle.foreign_def.specs.Says.{CheckSays}
use Rattle.foreign_call.proofs.Ruling as R
use Rattle.foreign_call.proofs.check.Goals as goal
use Rattle.foreign_call.proofs.check.Goals.{After-rules_hold}

pub returns-in_err-p : goal.returns-in_err-p
returns-in_err-p c =
    let p = err_from_is_err_and c.from_residual.result c.from_residual.ensures.1 in
    rw (p.1, p.2)
    (R.no_plant c.args.plant.now c.args.sheet.now c.args.numbers.now (read_as (Err c.in_err-p.field-0.0)) c.in_err-p.ensures (some_number _))

pub returns-in_err-kept : goal.returns-in_err-kept
returns-in_err-kept c =
    let p = err_from_is_err_and c.from_residual-in_err-kept.result c.from_residual-in_err-kept.ensures.1 in
    rw (p.1, p.2)
    (R.no_sheet_lem c.args.plant.now c.args.sheet.now c.args.numbers.now (read_as (Ok c.in_ok-p.p)) c.in_ok-p.ensures refl c.in_err-kept.field-0.0 c.in_err-kept.ensures)

pub rules_hold-requires : goal.rules_hold-requires
rules_hold-requires c =
    let g = R.sheet_got c.args.sheet.now c.in_ok-kept.kept c.in_ok-kept.ensures in
    (plant_accepted c.args.plant.now (read_as (Ok c.in_ok-p.p)) c.in_ok-p.ensures refl, g.few, g.long)

-- By what the rules say.
ruled : (c : After-rules_hold) (b : Bool) → c.rules_hold.result ≡ b
    → let a = c.args in
    CheckSays a.plant.now a.sheet.now a.numbers.now (pick b 0 26)
ruled c b e =
    R.by_rules c.args.plant.now c.args.sheet.now c.args.numbers.now (read_as (Ok c.in_ok-p.p)) c.in_ok-p.ensures refl
    c.in_ok-kept.kept c.in_ok-kept.ensures b (sym e ∙ c.rules_hold.ensures)

pub returns-then-not-rules_hold : goal.returns-then-not-rules_hold
returns-then-not-rules_hold c = ruled (goal.at.returns-then-not-rules_hold c).After-rules_hold false c.if-not-rules_hold.true

pub returns : goal.returns
returns c = ruled (goal.at.returns c).After-rules_hold true c.if-not-rules_hold.false

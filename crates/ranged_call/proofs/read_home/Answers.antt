-- The reader decides, then the ranges, then each stream is moved.
use mathlib.Core.Path.{refl}
use Rattle.std.specs.Prelude.{Ok}
use Rattle.std.proofs.lemmas.Result.{err_from_is_err_and}
use Rattle.plant_def.specs.Views.{read_as}
use Rattle.plant_def.proofs.Numbers.{some_number}
use Rattle.ranged_def.proofs.Reading.{home_bad, home_narrow, home_good}
use Rattle.ranged_call.proofs.read_home.Goals as goal

pub returns-in_err-ranged : goal.returns-in_err-ranged
returns-in_err-ranged c =
    let p = err_from_is_err_and c.from_residual.result c.from_residual.ensures.1 in
    rw (p.1, p.2) (home_bad c.args.file.now _ c.in_err-ranged.ensures (some_number _) _ refl)

pub returns-in_err-narrow_fault : goal.returns-in_err-narrow_fault
returns-in_err-narrow_fault c =
    let p = err_from_is_err_and c.from_residual-in_err-narrow_fault.result c.from_residual-in_err-narrow_fault.ensures.1 in
    rw (p.1, p.2) (home_narrow c.args.file.now (read_as (Ok c.in_ok-ranged.ranged)) c.in_ok-ranged.ensures refl _ c.in_err-narrow_fault.ensures (some_number _) _ refl)

pub returns : goal.returns
returns c =
    home_good c.args.file.now (read_as (Ok c.in_ok-ranged.ranged)) c.in_ok-ranged.ensures refl 0 c.in_ok-narrow_fault.ensures refl c.bare_all.new.streams c.bare_all.ensures

-- The reader decides, then each stream is moved.
use mathlib.Core.Path.{refl}
use Rattle.std.specs.Prelude.{Ok}
use Rattle.std.proofs.lemmas.Result.{err_from_is_err_and}
use Rattle.plant_def.specs.Views.{read_as}
use Rattle.plant_def.proofs.Numbers.{some_number}
use Rattle.ranged_def.proofs.Reading.{forward_bad, forward_good}
use Rattle.ranged_call.proofs.read_forward.Goals as goal

pub returns-in_err-p : goal.returns-in_err-p
returns-in_err-p c =
    let p = err_from_is_err_and c.from_residual.result c.from_residual.ensures.1 in
    rw (p.1, p.2) (forward_bad c.args.file.now _ c.in_err-p.ensures (some_number _) _ refl)

pub returns : goal.returns
returns c = forward_good c.args.file.now (read_as (Ok c.in_ok-p.p)) c.in_ok-p.ensures refl c.widen_all.new.streams c.widen_all.ensures

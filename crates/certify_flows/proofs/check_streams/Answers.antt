-- The first stream at fault decides.
use mathlib.Core.Path.{◌≡◌, refl, ◌∙◌, ap}
use native.Mathlib.Omega.{arith}
use Prim.Native.Nat.{◌<◌}
use lib.ListN.{length-take, take, get_or}
use Rattle.std.proofs.lemmas.List.{get_or-take}
use Rattle.std.proofs.lemmas.Result.{err_from_is_err_and}
use Rattle.plant_def.proofs.Numbers.{some_number}
use Rattle.certify_def.specs.declared.WideStream.{WideStream}
use Rattle.certify_def.specs.Number.{wide_fault}
use Rattle.certify_def.specs.Test.{plainly, no_wide, wide_at}
use Rattle.certify_def.proofs.Answer.{faults_more, faults_here}
use Rattle.certify_flows.proofs.check_streams.Goals as goal
use Rattle.certify_flows.proofs.check_streams.Goals.{In-loop-s}

within : (c : In-loop-s) → c.loop-s.s-index < c.args.count
within c = omega (arith, length-take c.args.count c.args.streams, c.loop-s-test.true)

-- The stream of the turn, in the array.
stream_is : (c : In-loop-s) → let a = c.args in
    wide_fault a.units (plainly (get_or (take a.count a.streams) c.loop-s.s-index no_wide)) ≡ wide_fault a.units (wide_at a.streams c.loop-s.s-index)
stream_is c =
    let a = c.args in
    ap (λ (s : WideStream). wide_fault a.units (plainly s)) (get_or-take a.count a.streams c.loop-s.s-index no_wide (within c))

pub returns-in_err-check_stream : goal.returns-in_err-check_stream
returns-in_err-check_stream c =
    let a = c.args in
    let t = (goal.at.returns-in_err-check_stream c).In-loop-s in
    let p = err_from_is_err_and c.from_residual.result c.from_residual.ensures.1 in
    rw (p.1, p.2) (faults_here a.units (wide_at a.streams) a.count c.loop-s.s-index _ (within t) c.loop-s.invariant
    (c.in_err-check_stream.ensures ∙ stream_is t) (some_number _))

pub loop-s-preserved : goal.loop-s-preserved
loop-s-preserved c =
    let a = c.args in
    let t = (goal.at.loop-s-preserved c).In-loop-s in
    faults_more a.units (wide_at a.streams) c.loop-s.s-index _ c.loop-s.invariant (c.in_ok-check_stream.ensures ∙ stream_is t) refl

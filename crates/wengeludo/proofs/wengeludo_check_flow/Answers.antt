-- The call's faults, then those of the streams, then the rules.
use mathlib.Core.Path.{◌≡◌, refl, sym, ◌∙◌}
use Rattle.plant_def.proofs.Numbers.{some_number}
use Rattle.plant_parts.specs.Parts.{Slices}
use Rattle.certify_def.specs.Number.{shortest}
use Rattle.certify_def.specs.Test.{slices_of}
use Rattle.certify_def.proofs.Answer.{says_of}
use Rattle.certify_call.proofs.Calling as C
use Rattle.wengeludo.proofs.wengeludo_check_flow.Goals as goal
use Rattle.wengeludo.proofs.wengeludo_check_flow.Goals.{After-min-reach}

abbrev parts : After-min-reach → Slices
parts c =
    let a = c.args in
    slices_of a.from.now a.to.now a.metered.now a.weight.now a.reading.now a.ranged.now a.low.now a.high.now

reach_is : (c : After-min-reach) → c.min-reach.result ≡ shortest (parts c)
reach_is c =
    C.by_min c.min-reach.ensures
    (C.by_min c.min-first.ensures (C.by_min c.min.ensures refl refl) (C.by_min c.min-2.ensures refl refl))
    (C.by_min c.min-last.ensures (C.by_min c.min-3.ensures refl refl) (C.by_min c.min-4.ensures refl refl))

pub returns-in-Err : goal.returns-in-Err
returns-in-Err c =
    let a = c.args in
    let t = (goal.at.returns-in-Err c).After-min-reach in
    says_of a.units a.count (parts t) a.flow.now a.numbers.now _
    (C.refused_early a.units a.count (parts t) a.flow.now a.numbers.now _ _ (reach_is t) (c.number.ensures ∙ c.in-Err.ensures)
    (λ z. some_number _ (sym c.number.ensures ∙ z)))

pub returns : goal.returns
returns c =
    let a = c.args in
    let t = (goal.at.returns c).After-min-reach in
    says_of a.units a.count (parts t) a.flow.now a.numbers.now _
    (C.by_streams a.units a.count (parts t) a.flow.now a.numbers.now _ _ (reach_is t) c.in_default.ensures refl
    c.ranges_gathered-streams.result c.check_number.result
    (C.both_gathered (parts t) a.count c.meters_gathered-meters.result c.ranges_gathered-streams.result c.meters_gathered-meters.ensures c.ranges_gathered-streams.ensures)
    (c.check_number.ensures ∙ c.check_flow.ensures))

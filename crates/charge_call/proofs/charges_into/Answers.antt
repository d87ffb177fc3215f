-- There is room for the numbers and for the cents.
use mathlib.Core.Path.{refl, ap, ◌∙◌}
use Prim.Native.Nat.{◌≤◌}
use mir.Syntax.{w64}
use mir.Val.{SFits}
use mir.Facts.{to_z-of_z}
use lib.ListN.{length}
use Rattle.plant_def.specs.Limits.{max_streams}
use Rattle.plant_def.specs.Refused.{refusal_number}
use Rattle.num_lent.proofs.Rooms.{lend}
use Rattle.charge_def.specs.Says.{no_charges}
use Rattle.charge_def.specs.Views.{billed_as}
use Rattle.charge_call.specs.declared.Handed.{Handed}
use Rattle.charge_call.proofs.Lending.{room_lent, charges_shown_lem}
use borrow.Author.Rules.{rules}
use Rattle.charge_call.proofs.charges_into.Goals as goal
use Rattle.charge_call.proofs.charges_into.Goals.{In-Ok}

-- As many as are charged fit both slices.
room : (c : In-Ok)
    → let count = c.in-Ok.charges.count in
    (count ≤ max_streams) × (count ≤ length c.args.numbers.now) × (count ≤ length c.args.cents.now)
room c =
    room_lent c.args.file.now c.args.rates.now (length c.args.numbers.now) (length c.args.cents.now)
    (billed_as c.in-Ok.charges) c.in-Ok.ensures

pub returns-in-Err : goal.returns-in-Err
returns-in-Err c =
    lend _ _ _ (no_charges (refusal_number c.in-Err.refusal)) _ _ c.in-Err.ensures
    (λ i. ((ap (λ (h : Handed). h.number) c.refused.ensures ∙ c.number.ensures) i, (c.refused.ensures i).count, (c.refused.ensures i).bill, c.args.numbers.now, c.args.cents.now))

pub put_bytes-requires : goal.put_bytes-requires
put_bytes-requires c =
    ((room (goal.at.put_bytes-requires c).In-Ok).0, (room (goal.at.put_bytes-requires c).In-Ok).1)

pub put_signed-requires : goal.put_signed-requires
put_signed-requires c =
    ((room (goal.at.put_signed-requires c).In-Ok).0, (room (goal.at.put_signed-requires c).In-Ok).2)

-- The bill is of 64 bits.
bill_fits : (c : In-Ok) → SFits w64 c.in-Ok.charges.bill
bill_fits c = search rules

pub returns : goal.returns
returns c =
    let v = billed_as c.in-Ok.charges in
    lend _ _ _ v _ _ c.in-Ok.ensures
    (charges_shown_lem v _ _ _ _ _ _ _ refl refl (to_z-of_z (bill_fits (goal.at.returns c).In-Ok)) c.put_bytes.ensures c.put_signed.ensures)

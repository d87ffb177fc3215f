-- What was read, and what the two slices then hold.
use native.Mathlib.Omega.{arith}
use mathlib.Core.Path.{refl}
use Rattle.std.specs.Prelude.{Ok, Err}
use lib.ListN.{length}
use Rattle.sheet_def.specs.Views.{sheet_as}
use Rattle.sheet_parts.specs.Kept.{read_lent}
use Rattle.sheet_parts.proofs.Handing.{Room, room_lent, handed_over}
use Rattle.wengeludo.proofs.wengeludo_read_sheet.Goals as goal
use Rattle.wengeludo.proofs.wengeludo_read_sheet.Goals.{In-Ok}

-- There is room for what was read.
room : (c : In-Ok) → let a = c.args in Room c.in-Ok.read.count (length a.kinds.now) (length a.flows.now)
room c = let a = c.args in room_lent a.bytes.now (length a.kinds.now) (length a.flows.now) (sheet_as (Ok c.in-Ok.read)) c.in-Ok.ensures

pub put_kinds-requires : goal.put_kinds-requires
put_kinds-requires c = let q = room (goal.at.put_kinds-requires c).In-Ok in (q.few, q.in_kinds)

pub put_flows-requires : goal.put_flows-requires
put_flows-requires c = let q = room (goal.at.put_flows-requires c).In-Ok in (q.few, q.in_flows)

pub returns-in-Ok : goal.returns-in-Ok
returns-in-Ok c =
    let a = c.args in
    handed_over (read_lent a.bytes.now (length a.kinds.now) (length a.flows.now)) {y = sheet_as (Ok c.in-Ok.read)} c.in-Ok.ensures
    (room (goal.at.returns-in-Ok c).In-Ok).few c.put_kinds.ensures c.put_flows.ensures

pub returns-in-Err : goal.returns-in-Err
returns-in-Err c =
    let a = c.args in
    rw c.number.ensures
    (handed_over (read_lent a.bytes.now (length a.kinds.now) (length a.flows.now)) {y = sheet_as (Err c.in-Err.refusal)} c.in-Err.ensures
    (omega arith) refl refl)

-- Each turn hands over the next flow.
use borrow.Author.Rules.{rules}
use native.Mathlib.Omega.{arith}
use lib.ListN.{get_or}
use mir.Syntax.{w64}
use mir.Val.{SFits, to_z, of_z}
use mir.Facts.{to_z-of_z}
use Rattle.sheet_def.specs.Calls.{no_entry}
use Rattle.num_lent.proofs.Handing.{none_handed, slice_long, room_there, one_handed, all_handed}
use Rattle.sheet_parts.proofs.put_flows.Invariants.{shown}
use Rattle.sheet_parts.proofs.put_flows.Goals as goal

pub loop-k-init : goal.loop-k-init
loop-k-init c = none_handed shown c.args.streams c.args.count c.args.flows.now (omega (arith, c.requires.0)) c.requires.1

pub bounds-flows-k : goal.bounds-flows-k
bounds-flows-k c = room_there shown c.loop-k.invariant c.loop-k-test.true

pub loop-k-preserved : goal.loop-k-preserved
loop-k-preserved c =
    let e = get_or c.args.streams c.loop-k.k no_entry in
    let f : SFits w64 e.flow = search rules in
    one_handed shown c.loop-k.invariant no_entry (to_z w64 (of_z w64 e.flow)) c.loop-k-test.true (to_z-of_z f)

pub shape_of-flows : goal.shape_of-flows
shape_of-flows c = slice_long shown c.loop-k.invariant

pub returns : goal.returns
returns c = all_handed shown c.loop-k.invariant c.loop-k-test.false

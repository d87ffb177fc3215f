-- Each turn hands over the next kind.
use native.Mathlib.Omega.{arith}
use Rattle.sheet_def.specs.Calls.{no_entry}
use Rattle.num_lent.proofs.Handing.{none_handed, slice_long, room_there, one_handed, all_handed}
use Rattle.sheet_parts.proofs.put_kinds.Invariants.{kind}
use Rattle.sheet_parts.proofs.put_kinds.Goals as goal

pub loop-k-init : goal.loop-k-init
loop-k-init c = none_handed kind c.args.streams c.args.count c.args.kinds.now (omega (arith, c.requires.0)) c.requires.1

pub bounds-kinds-k : goal.bounds-kinds-k
bounds-kinds-k c = room_there kind c.loop-k.invariant c.loop-k-test.true

pub loop-k-preserved : goal.loop-k-preserved
loop-k-preserved c = one_handed kind c.loop-k.invariant no_entry c.kind_of.result c.loop-k-test.true c.kind_of.ensures

pub shape_of-kinds : goal.shape_of-kinds
shape_of-kinds c = slice_long kind c.loop-k.invariant

pub returns : goal.returns
returns c = all_handed kind c.loop-k.invariant c.loop-k-test.false

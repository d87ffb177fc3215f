-- Each turn lends the part that starts at the next free byte.
use borrow.Author.Rules.{rules}
use native.Mathlib.Omega.{arith}
use mathlib.Core.Path.{refl}
use Prim.Native.Nat.{◌+◌}
use lib.ListN.{get_or, take}
use mir.Syntax.{w64}
use mir.Val.{SFits}
use mir.Facts.{to_z-of_z}
use Rattle.num_bytes.specs.Inner.{Put}
use Rattle.num_bytes.proofs.Parts.{returned, part_from}
use Rattle.num_bytes.proofs.Rows.{Rows, no_rows, one_row, rows_long, rows_lend, rows_room, all_rows}
use Rattle.sheet_def.specs.Sheets.{record_of, records_of}
use Rattle.sheet_def.specs.Totals.{stream_size}
use Rattle.sheet_def.specs.Calls.{no_entry}
use Rattle.sheet_def.proofs.Laying.{record_most, records_more}
use Rattle.sheet_write.proofs.put_records.Goals as goal
use Rattle.sheet_write.proofs.put_records.Goals.{After-slice_known-in-loop-i-1}

-- The record is written.
written : (c : After-slice_known-in-loop-i-1)
    → let a = c.args in
    let l = c.loop-i in
    Rows (λ k. records_of (take k a.streams)) stream_size a.count a.out.now (returned l.at l.out c.put_record-at.new.out)
    (l.at + c.put_record-at.result) (l.i + 1)
written c =
    let a = c.args in
    let l = c.loop-i in
    let e = get_or a.streams l.i no_entry in
    let lt = c.loop-i-test.true in
    let f : SFits w64 e.flow = search rules in
    let put : Put (record_of e.class e.flow) (part_from l.at l.out) c.put_record-at.new.out c.put_record-at.result = rw (to_z-of_z f) at
    c.put_record-at.ensures in
    one_row l.invariant.2 (record_of e.class e.flow) {last = c.put_record-at.new.out} {m = c.put_record-at.result} lt
    (records_more a.streams l.i no_entry (omega (arith, l.invariant.0, l.invariant.1))) (record_most e.class e.flow) put

pub loop-i-init : goal.loop-i-init
loop-i-init c =
    let a = c.args in
    let p = c.requires in
    (p.0, search rules, no_rows (λ k. records_of (take k a.streams)) stream_size a.count a.out.now refl (omega (arith, p.0, p.1)))

pub slice_bounds-put_record-count : goal.slice_bounds-put_record-count
slice_bounds-put_record-count c = rows_lend c.loop-i.invariant.2

pub slice_bounds-put_record-start : goal.slice_bounds-put_record-start
slice_bounds-put_record-start c = rows_lend c.loop-i.invariant.2

pub put_record-at-requires : goal.put_record-at-requires
put_record-at-requires c =
    rows_room c.loop-i.invariant.2 c.loop-i-test.true

pub overflow_add-at : goal.overflow_add-at
overflow_add-at c =
    omega (arith, rows_lend (written c), rows_long (written c), c.well_formed)

pub loop-i-preserved : goal.loop-i-preserved
loop-i-preserved c =
    (c.loop-i.invariant.0, c.loop-i.invariant.1, written c)

pub shape_of-out : goal.shape_of-out
shape_of-out c = rows_long c.loop-i.invariant.2

pub returns : goal.returns
returns c = all_rows c.loop-i.invariant.2 c.loop-i-test.false

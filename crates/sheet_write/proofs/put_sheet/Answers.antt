-- The records, then the total in the part behind them.
use native.Mathlib.Omega.{arith}
use Rattle.sheet_def.proofs.Laying.{Recorded, recorded, total_lend, total_room, sheet_put}
use Rattle.sheet_write.proofs.put_sheet.Goals as goal
use Rattle.sheet_write.proofs.put_sheet.Goals.{After-slice_known-2-1}

-- The records are written.
behind : (c : After-slice_known-2-1) → let a = c.args in
    Recorded a.count a.b.streams a.out.now c.put_records-at.new.out c.put_records-at.result
behind c =
    let a = c.args in
    recorded a.count a.b.streams a.out.now c.requires.0 c.requires.1 c.put_records-at.ensures

pub slice_bounds-put_total-count : goal.slice_bounds-put_total-count
slice_bounds-put_total-count c = total_lend c.args.b (behind c)

pub slice_bounds-put_total-start : goal.slice_bounds-put_total-start
slice_bounds-put_total-start c = total_lend c.args.b (behind c)

pub put_total-requires : goal.put_total-requires
put_total-requires c =
    total_room c.args.b (behind (goal.at.put_total-requires c).After-slice_known-2-1)

pub overflow_add-result : goal.overflow_add-result
overflow_add-result c = omega (arith, (behind (goal.at.overflow_add-result c).After-slice_known-2-1).most)

pub returns : goal.returns
returns c =
    let a = c.args in
    sheet_put a.b (behind (goal.at.returns c).After-slice_known-2-1) a.office a.number c.put_total.new.out c.put_total.ensures

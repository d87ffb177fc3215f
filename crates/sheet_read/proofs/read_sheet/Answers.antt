-- Each record read makes one turn of the loop, and the record that is no stream ends it.
use native.Mathlib.Omega.{arith}
use mathlib.Core.Path.{◌≡◌}
use Rattle.std.proofs.lemmas.Result.{err_from_is_err_and}
use Rattle.num_bytes.proofs.Parts.{part_from}
use Rattle.sheet_def.specs.Kept.{Listed, record_at}
use Rattle.sheet_read.proofs.Loop.{turn, room_left, ended_here, refused_here}
use Rattle.sheet_read.proofs.read_sheet.Goals as goal
use Rattle.sheet_read.proofs.read_sheet.Goals.{In-Listed}

-- A stream was found.
listed_here : (c : In-Listed)
    → Listed c.in-Listed.entry c.in-Listed.size
    ≡ record_at c.loop-entry.count (part_from c.loop-entry.at c.args.bytes.now)
listed_here c = rw c.in-Listed.is at c.in_ok-entry.ensures

pub returns-in_err-entry : goal.returns-in_err-entry
returns-in_err-entry c =
    let p = err_from_is_err_and c.from_residual.result c.from_residual.ensures.1 in
    rw (p.1, p.2) (refused_here c.loop-entry.invariant c.in_err-entry.ensures)

pub bounds-streams-count : goal.bounds-streams-count
bounds-streams-count c = room_left c.loop-entry.invariant (listed_here c)

pub overflow_add-at : goal.overflow_add-at
overflow_add-at c = omega (arith, (turn c.loop-entry.invariant (listed_here c)).within, c.well_formed)

pub loop-entry-preserved : goal.loop-entry-preserved
loop-entry-preserved c = turn c.loop-entry.invariant (listed_here c)

pub returns-in-Ended : goal.returns-in-Ended
returns-in-Ended c = ended_here c.loop-entry.invariant (rw c.in-Ended.is at c.in_ok-entry.ensures)

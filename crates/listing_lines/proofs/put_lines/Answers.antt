-- Line by line.
use borrow.Author.Rules.{rules}
use mathlib.Core.Path.{refl, ap}
use native.Mathlib.Omega.{arith}
use lib.ListN.{get_or}
use lib.Seq.{take_all}
use mir.Syntax.{w64}
use mir.Val.{SFits}
use mir.Facts.{to_z-of_z}
use Rattle.sheet_def.specs.Calls.{no_entry}
use Rattle.num_text.proofs.Behind.{added_as}
use Rattle.num_text.proofs.Lines.{no_lines, lines_most, all_lines}
use Rattle.listing_lines.specs.Listing.{lines_from}
use Rattle.listing_lines.specs.Room.{line_size}
use Rattle.listing_lines.proofs.Lined.{line_room, one_line}
use Rattle.listing_lines.proofs.put_lines.Goals as goal

pub loop-i-init : goal.loop-i-init
loop-i-init c = no_lines _ line_size _ c.args.out.now refl (omega (arith, c.requires.0, c.requires.1))

pub put_line-at-requires : goal.put_line-at-requires
put_line-at-requires c =
    let l = c.loop-i in
    let f : SFits w64 (get_or c.args.streams.now l.i no_entry).flow = search rules in
    rw (to_z-of_z f) (line_room c.requires.0 l.invariant c.loop-i-test.true no_entry f)

pub loop-i-preserved : goal.loop-i-preserved
loop-i-preserved c =
    let l = c.loop-i in
    let f : SFits w64 (get_or c.args.streams.now l.i no_entry).flow = search rules in
    one_line c.requires.0 l.invariant c.loop-i-test.true no_entry f (rw (to_z-of_z f) at c.put_line-at.ensures)

pub returns : goal.returns
returns c =
    let w = c.loop-i.invariant in
    let es = c.args.streams.now in
    (added_as (ap (lines_from 1) (take_all _ es (omega arith))) (all_lines w c.loop-i-test.false), omega (arith, lines_most w, c.requires.0))

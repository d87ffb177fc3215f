-- Line by line.
use borrow.Author.Rules.{rules}
use mathlib.Core.Path.{refl, ap₂}
use native.Mathlib.Omega.{arith}
use lib.ListN.{get_or}
use lib.Seq.{take_all}
use mir.Syntax.{w8, w64}
use mir.Val.{Fits}
use Rattle.num_text.proofs.Behind.{added_as, put_front}
use Rattle.num_text.proofs.Lines.{no_lines, all_lines}
use Rattle.visit_text.specs.Text.{lines_for}
use Rattle.visit_text.specs.Says.{line_size}
use Rattle.visit_text.proofs.Lined.{line_room, one_line}
use Rattle.visit_text.proofs.put_lines.Goals as goal

pub loop-k-init : goal.loop-k-init
loop-k-init c = no_lines _ line_size _ c.args.out.now refl (omega (arith, c.requires.0, c.requires.2))

pub put_line-at-requires : goal.put_line-at-requires
put_line-at-requires c =
    let f : Fits w8 (get_or c.args.streams.now c.loop-k.k 0) = search rules in
    let g : Fits w64 (get_or c.args.costs.now c.loop-k.k 0) = search rules in
    line_room c.requires.1 c.loop-k.invariant c.loop-k-test.true f.fits g.fits

pub loop-k-preserved : goal.loop-k-preserved
loop-k-preserved c =
    let f : Fits w8 (get_or c.args.streams.now c.loop-k.k 0) = search rules in
    let g : Fits w64 (get_or c.args.costs.now c.loop-k.k 0) = search rules in
    one_line c.requires.1 c.loop-k.invariant c.loop-k-test.true f.fits g.fits c.put_line-at.ensures

pub returns : goal.returns
returns c =
    put_front (added_as (ap₂ lines_for (take_all _ c.args.streams.now (omega arith)) (take_all _ c.args.costs.now (omega (arith, c.requires.1))))
    (all_lines c.loop-k.invariant c.loop-k-test.false))

-- Line by line.
use borrow.Author.Rules.{rules}
use mathlib.Core.Path.{refl, ap}
use native.Mathlib.Omega.{arith}
use lib.ListN.{get_or}
use lib.Seq.{take_all}
use mir.Syntax.{w16}
use mir.Val.{Fits}
use Rattle.num_text.proofs.Behind.{added_as, put_front}
use Rattle.num_text.proofs.Lines.{no_lines, all_lines}
use Rattle.survey_answers.specs.Text.{lines_from}
use Rattle.survey_answers.specs.Says.{line_size}
use Rattle.survey_answers.proofs.Lined.{line_room, one_line}
use Rattle.survey_answers.proofs.put_lines.Goals as goal

pub loop-k-init : goal.loop-k-init
loop-k-init c = no_lines _ line_size _ c.args.out.now refl (omega (arith, c.requires.0, c.requires.1))

pub put_line-at-requires : goal.put_line-at-requires
put_line-at-requires c =
    let f : Fits w16 (get_or c.args.counts.now c.loop-k.k 0) = search rules in
    line_room c.requires.0 c.loop-k.invariant c.loop-k-test.true f.fits

pub loop-k-preserved : goal.loop-k-preserved
loop-k-preserved c =
    let f : Fits w16 (get_or c.args.counts.now c.loop-k.k 0) = search rules in
    one_line c.requires.0 c.loop-k.invariant c.loop-k-test.true f.fits c.put_line-at.ensures

pub returns : goal.returns
returns c =
    put_front (added_as (ap (lines_from 0) (take_all _ c.args.counts.now (omega arith))) (all_lines c.loop-k.invariant c.loop-k-test.false))

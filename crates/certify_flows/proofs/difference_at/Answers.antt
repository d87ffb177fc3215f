-- The difference of two numbers within the limit fits 64 bits.
use lib.IntN.{pos}
use lib.ListN.{get_or}
use mir.Syntax.{w64}
use mir.Val.{SFits}
use Rattle.certify_flows.proofs.Turning as T
use borrow.Author.Rules.{rules}
use Rattle.certify_flows.proofs.difference_at.Goals as goal

pub overflow_sub-result : goal.overflow_sub-result
overflow_sub-result c =
    let f : SFits w64 (get_or c.args.numbers.now c.args.s.to (pos 0)) = search rules in
    let g : SFits w64 (get_or c.args.numbers.now c.args.s.from (pos 0)) = search rules in
    T.difference_fits _ _ f g c.requires.from_bound.1 c.requires.from_bound.0

pub returns : goal.returns
returns c =
    let f : SFits w64 (get_or c.args.numbers.now c.args.s.to (pos 0)) = search rules in
    let g : SFits w64 (get_or c.args.numbers.now c.args.s.from (pos 0)) = search rules in
    T.difference_is _ _ f g c.requires.from_bound.1 c.requires.from_bound.0

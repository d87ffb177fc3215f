-- `newton_descend::nets::product` meets its contract: the products of the places passed are summed.
use Rattle.std.proofs.Common.{◌≡◌, ◌+◌, [], ◌∷◌, ◌++◌, length, ap, ◌∙◌, rules, length-append}
use Rattle.std.proofs.lemmas.Slice.Zip.{zip_turn, zip_end}
use lib.Ieee.{nan}
use Rattle.newton_descend.specs.Nets.{product_to}
use Rattle.newton_descend.proofs.Steps.{product_none, product_more}
use Rattle.newton_descend.proofs.nets.product.Goals as goal

pub loop-a-init : goal.loop-a-init
loop-a-init c = product_none _ _

pub loop-a-preserved : goal.loop-a-preserved
loop-a-preserved c =
    let l = c.loop-a in
    let t =
    zip_turn c.args.x.now c.args.y.now l.yielded c.into_iter-a-iterator.result l.a-iterator c.next.new.self c.next.result (search rules) (search rules)
    l.yielded_by (c.in-Some.a, c.in-Some.b) c.in-Some.is c.next.ensures.steps in
    let e : length (l.yielded ++ ((c.in-Some.a, c.in-Some.b) ∷ [])) ≡ length l.yielded + 1 = simp length-append in
    rw (e, t.2 nan, t.3 nan) (product_more _ _ (length l.yielded) l.sum l.invariant)

pub returns : goal.returns
returns c =
    let l = c.loop-a in
    let e =
    zip_end c.args.x.now c.args.y.now l.yielded c.into_iter-a-iterator.result l.a-iterator c.next.new.self c.next.result (search rules) (search rules)
    l.yielded_by c.in-None.is c.next.ensures.steps in
    l.invariant ∙ ap (product_to _ _) e

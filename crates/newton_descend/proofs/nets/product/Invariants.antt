-- `newton_descend::nets::product` meets its contract: the products of the places passed are summed.
use Rattle.std.proofs.Common.{◌≡◌, length}
use Rattle.newton_descend.specs.Nets.{product_to}
use Rattle.newton_descend.proofs.nets.product.Given as goal

abbrev pub invariant-loop-a : goal.invariant-loop-a
invariant-loop-a l = l.sum ≡ product_to l.x l.y (length l.yielded)

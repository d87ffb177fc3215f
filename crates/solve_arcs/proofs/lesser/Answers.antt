-- `solve_arcs::lesser` meets its contract: std's lesser is that of the definition.
use mathlib.Core.Path.{◌≡◌, ◌∙◌}
use Prim.Native.Nat.{ℕ, min}
use native.Mathlib.Omega.{arith}
use borrow.Author.Tests.{ltb-true, ltb-false}
use lib.Dec.{ltb}
use Rattle.num_bytes.proofs.Tests.{picked}
use Rattle.solve_arcs.specs.Margins.{less_of}
use Rattle.solve_arcs.proofs.lesser.Goals as goal

least : (a b : ℕ) → min a b ≡ less_of a b
least a b = picked (λ (x : ℕ). min a b ≡ x) (ltb b a) b a (λ o. omega (arith, ltb-true b a o)) (λ o. omega (arith, ltb-false b a o))

pub returns : goal.returns
returns c = c.min.ensures ∙ least c.args.a c.args.b

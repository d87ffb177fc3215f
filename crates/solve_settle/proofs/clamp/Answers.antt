-- `solve_settle::clamp` meets its contract: by its test, and the lesser of two.
use mathlib.Core.Path.{◌≡◌, ◌∙◌}
use mathlib.Core.Bool.{true, false}
use Prim.Native.Nat.{ℕ, min}
use native.Mathlib.Omega.{arith}
use borrow.Author.Tests.{lt-ltb, le-ltb, ltb-true, ltb-false}
use lib.Dec.{ltb}
use Rattle.num_bytes.specs.Choice.{pick}
use Rattle.num_bytes.proofs.Tests.{by_cases}
use Rattle.solve_settle.proofs.clamp.Goals as goal

pub returns-then-x-low : goal.returns-then-x-low
returns-then-x-low c = rw (lt-ltb _ _ c.if-x-low.true)

-- The number, not above the range.
capped : (high x : ℕ) → min x high ≡ pick (ltb high x) high x
capped high x = by_cases (ltb high x) (λ t. rw (t, above t)) (λ t. rw (t, within t))
  where
    above : ltb high x ≡ true → min x high ≡ high
    above t = omega (arith, ltb-true _ _ t)

    within : ltb high x ≡ false → min x high ≡ x
    within t = omega (arith, ltb-false _ _ t)

pub returns-else-x-low : goal.returns-else-x-low
returns-else-x-low c = c.min.ensures ∙ rw (le-ltb _ _ c.if-x-low.false) (capped c.args.high c.args.x)

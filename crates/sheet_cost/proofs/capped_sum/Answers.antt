-- std's sum stops at the cap.
use native.Mathlib.Omega.{arith}
use mathlib.Core.Path.{◌≡◌, ◌∙◌}
use Prim.Native.Nat.{ℕ, min}
use Rattle.num_bytes.proofs.Tests.{picked}
use borrow.Author.Tests.{leb-true, leb-false}
use lib.Dec.{leb}
use Rattle.sheet_def.specs.Totals.{top_cost, capped}
use Rattle.sheet_cost.proofs.capped_sum.Goals as goal

stops : (x : ℕ) → min x top_cost ≡ capped x
stops x = picked (λ (y : ℕ). min x top_cost ≡ y) (leb x top_cost) x top_cost (λ t. omega (arith, leb-true x top_cost t)) (λ t. omega (arith, leb-false x top_cost t))

pub returns : goal.returns
returns c = c.saturating_add.ensures ∙ stops _

-- A cost as it is written.
use mathlib.Core.Path.{◌≡◌}
use Prim.Native.Nat.{ℕ, ◌≤◌}
use native.Mathlib.Omega.{arith}
use native.Mathlib.Nat.{le_antisymm}
use borrow.Author.Tests.{le-leb, leb-true}
use lib.Dec.{leb}
use Rattle.num_bytes.proofs.Tests.{by_cases}
use Rattle.sheet_def.specs.Totals.{top_cost, capped}

-- A cost that 8 bytes hold is written as it is,
pub capped_below : (c : ℕ) → c ≤ top_cost → capped c ≡ c
capped_below c h = rw (le-leb c top_cost h)

-- a greater one as the greatest,
pub capped_above : (c : ℕ) → top_cost ≤ c → capped c ≡ top_cost
capped_above c h = by_cases (leb c top_cost) (λ t. rw t (le_antisymm (leb-true c top_cost t) h)) (λ t. rw t)

-- and what is written fits.
pub capped_most : (c : ℕ) → capped c ≤ top_cost
capped_most c = by_cases (leb c top_cost) (λ t. rw t (leb-true c top_cost t)) (λ t. rw t (omega arith))

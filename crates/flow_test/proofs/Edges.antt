-- Where a cost above the value is close: four times what it is above is at most the weights, whether it is held against their
-- quarter, rounded down, or not.
use mathlib.Core.Path.{◌≡◌}
use Prim.Native.Nat.{ℕ, ◌+◌, ◌-◌, ◌*◌, ◌/◌, ◌≤◌, ◌<◌}
use native.Mathlib.Omega.{arith}
use borrow.Author.Tests.{ne_eqb, le-leb, lt-leb}
use Rattle.flow_def.specs.Test.{critical_at, verdict_at}

module _ (d c q : ℕ) (some : d ≡ 0 → ⊥) where
  -- At the critical value or below: pass.
  pub pass_is : c ≤ critical_at d → 0 ≡ verdict_at d c q
  pass_is h = simp (ne_eqb d 0 some, le-leb c (critical_at d) h)

  module _ (over : critical_at d < c) where
    within : (v : ℕ) → v < c → c - v ≤ q / 4 → 4 * c ≤ 4 * v + q
    within v l h = omega arith

    beyond : (v : ℕ) → v < c → q / 4 < c - v → 4 * v + q < 4 * c
    beyond v l h = omega arith

    -- Not far above it: close.
    pub close_is : c - critical_at d ≤ q / 4 → 3 ≡ verdict_at d c q
    close_is h = simp (ne_eqb d 0 some, lt-leb c (critical_at d) over, le-leb (4 * c) (4 * critical_at d + q) (within (critical_at d) over h))

    -- Further: fail.
    pub fail_is : q / 4 < c - critical_at d → 1 ≡ verdict_at d c q
    fail_is h = simp (ne_eqb d 0 some, lt-leb c (critical_at d) over, lt-leb (4 * c) (4 * critical_at d + q) (beyond (critical_at d) over h))

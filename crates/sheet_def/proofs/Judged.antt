-- What a verdict means, by arithmetic: pass is the cost's own; fail is that of every flow which the cost undercuts no more than by
-- a quarter of the weights.
use mathlib.Core.Path.{◌≡◌, refl}
use mathlib.Core.Bool.{Bool, true, false}
use Prim.Native.Nat.{ℕ, ◌+◌, ◌*◌, ◌≤◌, ◌<◌}
use native.Mathlib.Omega.{arith}
use native.Mathlib.Nat.{mul-le-mul, mul-le-mul_left}
use borrow.Author.Tests.{leb-true, leb-false}
use lib.Dec.{eqb, leb}
use Rattle.num_bytes.specs.Choice.{pick}
use Rattle.flow_def.specs.Test.{critical_at, verdict_at}

-- The four verdicts by their three tests; 0 needs the second, 1 is without the third.
abbrev by_tests : Bool → Bool → Bool → ℕ
by_tests a b e = pick a 2 (pick b 0 (pick e 3 1))

pass_tests : (a b e : Bool) → by_tests a b e ≡ 0 → b ≡ true
pass_tests true b e h = absurd (omega arith)
pass_tests false true e h = refl
pass_tests false false true h = absurd (omega arith)
pass_tests false false false h = absurd (omega arith)

fail_tests : (a b e : Bool) → by_tests a b e ≡ 1 → e ≡ false
fail_tests true b e h = absurd (omega arith)
fail_tests false true e h = absurd (omega arith)
fail_tests false false true h = absurd (omega arith)
fail_tests false false false h = refl

module _ (d c q : ℕ) where
  -- Pass: the cost is at most the critical value.
  pub passed_means : verdict_at d c q ≡ 0 → c ≤ critical_at d
  passed_means h = leb-true c (critical_at d) (pass_tests (eqb d 0) (leb c (critical_at d)) (leb (4 * c) (4 * critical_at d + q)) h)

  -- 4·k·c ≤ 4·s + k·q, where k is the square of a denominator, and 4·v + q < 4·c: so k·v < s.
  above : (v k s : ℕ) → 1 ≤ k → 4 * v + q < 4 * c → 4 * k * c ≤ 4 * s + k * q → k * v < s
  above v k s l h near = omega (arith, mul-le-mul_left k h)

  -- Fail: every flow in n-ths that undercuts the cost by no more than a quarter of the weights costs more than the critical value.
  pub failed_means : verdict_at d c q ≡ 1 → (n s : ℕ) → 1 ≤ n → 4 * (n * n) * c ≤ 4 * s + n * n * q → n * n * critical_at d < s
  failed_means h n s l near =
      let far = leb-false (4 * c) (4 * critical_at d + q) (fail_tests (eqb d 0) (leb c (critical_at d)) (leb (4 * c) (4 * critical_at d + q)) h) in
      above (critical_at d) (n * n) s (mul-le-mul l l) far near

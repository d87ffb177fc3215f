-- The nearest amount as one quotient: rounded down from above the reading, and rounded up from below it.
use mathlib.Core.Path.{◌≡◌}
use mathlib.Core.Bool.{true, false}
use Prim.Native.Nat.{ℕ, ◌+◌, ◌-◌, ◌*◌, ◌/◌, ◌≤◌, ◌<◌}
use native.Mathlib.Nat.{div-mul-le_self, lt-div-mul-add, div-eq_of_lt-le, mul-add-div_right, mul-le-mul_right, zero-div}
use native.Mathlib.Omega.{arith}
use native.Mathlib.Decide.{dec_le}
use borrow.Author.Tests.{leb-true, leb-false}
use lib.Dec.{leb}
use Rattle.num_bytes.proofs.Tests.{by_cases}
use Rattle.solve_def.specs.Model.{nearest_amount}

-- a below R times m: the quotient falls by that of a, rounded up.
module _ (m R a : ℕ) (some : 0 < m) (one : 1 ≤ a) where
  within : (q k : ℕ) → R ≡ k + q → q * m ≤ a + m - 1 → a + m - 1 < q * m + m → (R * m - a) / m ≡ k
  within q k e low high = rw e (div-eq_of_lt-le m (omega arith) (omega arith))

  past : (q : ℕ) → R < q → q * m ≤ a + m - 1 → (R * m - a) / m ≡ R - q
  past q l low =
      let n : R * m - a ≡ 0 = omega (arith, mul-le-mul_right m l) in
      let z : R - q ≡ 0 = omega arith in
      rw (n, z) (zero-div m)

  below : (R * m - a) / m ≡ R - (a + m - 1) / m
  below = elim (dec_le ((a + m - 1) / m) R) [
    | yes l ↦ within ((a + m - 1) / m) (R - (a + m - 1) / m) (omega arith) (div-mul-le_self (a + m - 1) m) (lt-div-mul-add some)
    | no l ↦ past ((a + m - 1) / m) (omega arith) (div-mul-le_self (a + m - 1) m)
  ]

-- By twice the weight times the reading.
pub nearest_is : (w R pu pv : ℕ) → 1 ≤ w → ((2 * (w * R) + (pv + w)) - pu) / (2 * w) ≡ nearest_amount w R pu pv
nearest_is w R pu pv o = by_cases (leb pu (pv + w)) above under
  where
    above : leb pu (pv + w) ≡ true → ((2 * (w * R) + (pv + w)) - pu) / (2 * w) ≡ nearest_amount w R pu pv
    above t =
        let e : (2 * (w * R) + (pv + w)) - pu ≡ R * (2 * w) + (pv + w - pu) = omega (arith, leb-true pu (pv + w) t) in
        rw (t, e) (mul-add-div_right (omega arith) R (pv + w - pu))

    under : leb pu (pv + w) ≡ false → ((2 * (w * R) + (pv + w)) - pu) / (2 * w) ≡ nearest_amount w R pu pv
    under t =
        let l : pv + w < pu = leb-false pu (pv + w) t in
        let e : (2 * (w * R) + (pv + w)) - pu ≡ R * (2 * w) - (pu - (pv + w)) = omega arith in
        let f : pu - pv + w - 1 ≡ (pu - (pv + w)) + 2 * w - 1 = omega arith in
        rw (t, e, f) (below (2 * w) R (pu - (pv + w)) (omega arith) (omega arith))

-- Bits of numbers.
use mathlib.Core.Path.{◌≡◌, refl, sym, ◌∙◌, ap}
use mathlib.Core.Bool.{Bool, true, false, not, ◌||◌}
use Prim.Native.Nat.{ℕ, zero, suc, ◌+◌, ◌-◌, ◌*◌, ◌/◌, ◌%◌, ◌^◌, ◌≤◌, ◌<◌, max}
use native.Mathlib.Nat.{mod-lt, mul-add-mod_self_right, mul-mod_left, zero-lt-suc, div-eq_of_lt, pow-suc}
use native.Mathlib.Omega.{arith}
use native.Mathlib.Decide.{dec_le}
use lib.Dec.{eqb}
use lib.Bits.{bit_or, bit_xor, differ, xor_step, or_step, xor_shr, or_shr}
use lib.Pow.{pow_pos, pow-add, pow-lt, shl-shr}
use Rattle.num_bytes.specs.Sums.{bit}

-- One of two, not both.
abbrev pub unlike : Bool → Bool → Bool
unlike true b = not b
unlike false b = b

two : (x : ℕ) → x % 2 < 2
two x = mod-lt x (zero-lt-suc 1)

-- What holds of the four pairs of digits holds of all.
digits : (P : ℕ → ℕ → Type 0) → P 0 0 → P 0 1 → P 1 0 → P 1 1 → (x y : ℕ) → x < 2 → y < 2 → P x y
digits P a b c d zero zero h k = a
digits P a b c d zero (suc zero) h k = b
digits P a b c d zero (suc (suc y)) h k = absurd (omega arith)
digits P a b c d (suc zero) zero h k = c
digits P a b c d (suc zero) (suc zero) h k = d
digits P a b c d (suc zero) (suc (suc y)) h k = absurd (omega arith)
digits P a b c d (suc (suc x)) y h k = absurd (omega arith)

-- An operation that goes digit by digit goes bit by bit.
bit_by : (op digit : ℕ → ℕ → ℕ) (on : Bool → Bool → Bool) → ((a b h : ℕ) → op a b / 2 ^ h ≡ op (a / 2 ^ h) (b / 2 ^ h))
    → ((a b : ℕ) → op a b ≡ op (a / 2) (b / 2) * 2 + digit (a % 2) (b % 2))
    → ((x y : ℕ) → x < 2 → y < 2 → eqb (digit x y % 2) 1 ≡ on (eqb x 1) (eqb y 1))
    → (h a b : ℕ) → bit h (op a b) ≡ on (bit h a) (bit h b)
bit_by op digit on halved stepped right h a b =
    ap (λ (x : ℕ). eqb (x % 2) 1) (halved a b h ∙ stepped (a / 2 ^ h) (b / 2 ^ h))
    ∙ ap (λ (x : ℕ). eqb x 1) (mul-add-mod_self_right (op (a / 2 ^ h / 2) (b / 2 ^ h / 2)) 2 (digit (a / 2 ^ h % 2) (b / 2 ^ h % 2)))
    ∙ right (a / 2 ^ h % 2) (b / 2 ^ h % 2) (two (a / 2 ^ h)) (two (b / 2 ^ h))

-- A bit of an exclusive or: where the two bits differ.
pub bit_xor_lem : (h a b : ℕ) → bit h (bit_xor a b) ≡ unlike (bit h a) (bit h b)
bit_xor_lem = bit_by bit_xor differ unlike xor_shr xor_step (digits (λ x y. eqb (differ x y % 2) 1 ≡ unlike (eqb x 1) (eqb y 1)) refl refl refl refl)

-- A bit of an or: where one of the two bits is set.
pub bit_or_lem : (h a b : ℕ) → bit h (bit_or a b) ≡ bit h a || bit h b
bit_or_lem = bit_by bit_or max ◌||◌ or_shr or_step (digits (λ x y. eqb (max x y % 2) 1 ≡ eqb x 1 || eqb y 1) refl refl refl refl)

low_none : (h x : ℕ) → x < 2 ^ h → bit h x ≡ false
low_none h x l = ap (λ (q : ℕ). eqb (q % 2) 1) (div-eq_of_lt l)

-- The number 0 has no bit.
pub bit_zero : (h : ℕ) → bit h 0 ≡ false
bit_zero h = low_none h 0 (pow_pos h)

-- The number 1 has no bit but bit 0.
pub bit_one : (h : ℕ) → 1 ≤ h → bit h 1 ≡ false
bit_one h l = low_none h 1 (pow-lt {i = 0} {j = h} l)

-- A power of two has its own bit,
pub bit_same : (h : ℕ) → bit h (2 ^ h) ≡ true
bit_same h = ap (λ (q : ℕ). eqb (q % 2) 1) (ap (λ (x : ℕ). x / 2 ^ h) (sym (mul_one' (2 ^ h))) ∙ shl-shr 1 h)
  where
    mul_one' : (x : ℕ) → 1 * x ≡ x
    mul_one' x = omega arith

-- and no other.
pub bit_other : (h g : ℕ) → (h ≡ g → ⊥) → bit h (2 ^ g) ≡ false
bit_other h g e = elim (dec_le (suc g) h) [
  | yes l ↦ low_none h (2 ^ g) (pow-lt l)
  | no l ↦ above (g - suc h) (omega arith)
]
  where
    above : (d : ℕ) → g ≡ suc d + h → bit h (2 ^ g) ≡ false
    above d q =
        ap (λ (x : ℕ). eqb (x / 2 ^ h % 2) 1) (ap (λ (x : ℕ). 2 ^ x) q ∙ pow-add 2 (suc d) h)
        ∙ ap (λ (x : ℕ). eqb (x % 2) 1) (shl-shr (2 ^ suc d) h)
        ∙ ap (λ (x : ℕ). eqb (x % 2) 1) (pow-suc 2 d) ∙ ap (λ (x : ℕ). eqb x 1) (mul-mod_left (2 ^ d) 2)

-- Two answers that are not unlike are equal.
pub alike : (x y : Bool) → unlike x y ≡ false → x ≡ y
alike true true e = refl
alike true false e = e
alike false y e = sym e

-- Two equal answers are not unlike.
pub unalike : (x y : Bool) → x ≡ y → unlike x y ≡ false
unalike true y e = rw (← e) refl
unalike false y e = rw (← e) refl

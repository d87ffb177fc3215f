-- The bits of a number made of marks are these marks.
use mathlib.Core.Path.{◌≡◌, refl, sym, ap, ◌∙◌}
use mathlib.Core.Bool.{Bool, true, false}
use mathlib.Core.List.{List, [], ◌∷◌}
use Prim.Native.Nat.{ℕ, zero, suc, ◌+◌, ◌*◌, ◌/◌, ◌%◌, ◌^◌, ◌≤◌, ◌<◌}
use native.Mathlib.Omega.{arith}
use native.Mathlib.Nat.{add-mul-div_left, add-mul-mod_self_left, div-div-eq-div-mul, div-eq_of_lt, div-one, pow-suc, mul_comm}
use lib.Dec.{eqb}
use native.Mathlib.Numerals.{add-one}
use mir.Val.{bool_byte}
use lib.ListN.{length, get_or, take}
use Rattle.num_bytes.specs.Inner.{values}
use Rattle.plant_def.specs.Limits.{places}
use Rattle.num_bytes.specs.Sums.{bit}
use Rattle.num_bytes.proofs.Lists.{values_same}
use Rattle.num_lent.specs.Marks.{marks_in}

-- The number with these bits, the first the lowest.
abbrev pub bits_of : List Bool → ℕ
bits_of [] = 0
bits_of (m ∷ ms) = bool_byte m + 2 * bits_of ms

digit_small : (m : Bool) → bool_byte m < 2
digit_small true = omega arith
digit_small false = omega arith

-- The lowest bit, and the others.
first_bit : (m : Bool) (n : ℕ) → bit 0 (bool_byte m + 2 * n) ≡ m
first_bit m n = ap (λ (x : ℕ). eqb (x % 2) 1) (div-one (bool_byte m + 2 * n)) ∙ ap (λ (x : ℕ). eqb x 1) (add-mul-mod_self_left (bool_byte m) 2 n) ∙ go m
  where
    go : (m : Bool) → eqb (bool_byte m % 2) 1 ≡ m
    go true = refl
    go false = refl

halved : (m : Bool) (n : ℕ) → (bool_byte m + 2 * n) / 2 ≡ n
halved m n = add-mul-div_left (bool_byte m) n (omega arith) ∙ ap (λ (x : ℕ). x + n) (div-eq_of_lt (digit_small m)) ∙ omega arith

next_bit : (h : ℕ) (m : Bool) (n : ℕ) → bit (suc h) (bool_byte m + 2 * n) ≡ bit h n
next_bit h m n = ap (λ (x : ℕ). eqb (x % 2) 1) (ap (λ (p : ℕ). (bool_byte m + 2 * n) / p) (pow-suc 2 h ∙ mul_comm (2 ^ h) 2)
    ∙ sym (div-div-eq-div-mul (bool_byte m + 2 * n) 2 (2 ^ h)) ∙ ap (λ (x : ℕ). x / 2 ^ h) (halved m n))

bits_back : (ms : List Bool) → values (length ms) (λ u. bit u (bits_of ms)) ≡ ms
bits_back [] = refl
bits_back (m ∷ ms) =
    let e = first_bit m (bits_of ms) in
    let f = values_same (length ms) (λ u. bit (suc u) (bits_of (m ∷ ms))) (λ u. bit u (bits_of ms)) (λ k l. next_bit k m (bits_of ms)) ∙ bits_back ms in
    λ i. e i ∷ f i

marks_back : (ms : List Bool) → length ms ≡ places → marks_in (bits_of ms) ≡ ms
marks_back ms l = ap (λ (n : ℕ). values n (λ u. bit u (bits_of ms))) (sym l) ∙ bits_back ms

bits_most : (ms : List Bool) → bits_of ms < 2 ^ length ms
bits_most [] = omega arith
bits_most (m ∷ ms) = omega (arith, pow-suc 2 (length ms), bits_most ms, digit_small m)

-- One mark more: its digit counts for a power of 2.
bits_next : (ms : List Bool) (k : ℕ) → k < length ms → bits_of (take (suc k) ms) ≡ bits_of (take k ms) + bool_byte (get_or ms k false) * 2 ^ k
bits_next [] k l = absurd (omega arith)
bits_next (m ∷ ms) zero l = omega arith
bits_next (m ∷ ms) (suc k) l = rw (pow-suc 2 k) (omega (arith, bits_next ms k (omega arith)))

-- The first marks' bits are no more than all.
bits_fewer : (ms : List Bool) (k : ℕ) → bits_of (take k ms) ≤ bits_of ms
bits_fewer ms zero = omega arith
bits_fewer [] (suc k) = omega arith
bits_fewer (m ∷ ms) (suc k) = omega (arith, bits_fewer ms k)

module _ (ms : List Bool) (long : length ms ≡ places) (k : ℕ) (h : k < places) (d : ℕ) (is : d ≡ bool_byte (get_or ms k false)) where
  next : bits_of (take (suc k) ms) ≡ bits_of (take k ms) + d * 2 ^ k
  next = rw is (bits_next ms k (omega arith))

  few : bits_of (take (suc k) ms) < 2 ^ places
  few = omega (arith, bits_fewer ms (suc k), rw long at (bits_most ms))

  -- One mark more: its digit is not cut off where it stands.
  pub bits_more : bits_of (take k ms) + d * 2 ^ k % 2 ^ 64 ≡ bits_of (take (k + 1) ms)
  bits_more = rw (add-one k) (omega (arith, next, few))

  -- It fits.
  pub bits_fit : bits_of (take k ms) + d * 2 ^ k % 2 ^ 64 < 2 ^ places
  bits_fit = omega (arith, next, few)

-- All marks: the bits are the marks.
pub bits_all : (ms : List Bool) (n : ℕ) → length ms ≡ places → n ≡ bits_of ms → (marks_in n ≡ ms) × (n < 2 ^ places)
bits_all ms n l e = rw e (marks_back ms l, rw l at (bits_most ms))

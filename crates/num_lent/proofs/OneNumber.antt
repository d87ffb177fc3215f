-- Marks tell the number whose bits they are.
use mathlib.Core.Path.{◌≡◌, sym, ap, ◌∙◌}
use mathlib.Core.Bool.{Bool}
use mathlib.Core.List.{List, ◌∷◌}
use Prim.Native.Nat.{ℕ, zero, suc, ◌/◌, ◌%◌, ◌^◌, ◌<◌}
use native.Mathlib.Omega.{arith}
use native.Mathlib.Nat.{div-div-eq-div-mul, div-one, pow-suc, mul_comm}
use borrow.Author.Tests.{eqb-true, eqb-false}
use lib.Dec.{eqb}
use Rattle.num_bytes.specs.Inner.{values}
use Rattle.num_bytes.specs.Sums.{bit}
use Rattle.num_bytes.proofs.Tests.{by_cases}
use Rattle.num_bytes.proofs.Lists.{values_same}
use Rattle.plant_def.specs.Limits.{places}
use Rattle.num_lent.specs.Marks.{marks_in}

same_digit : (a b : ℕ) → a < 2 → b < 2 → eqb a 1 ≡ eqb b 1 → a ≡ b
same_digit a b h l e =
    by_cases (eqb a 1) (λ t. eqb-true a 1 t ∙ sym (eqb-true b 1 (sym e ∙ t)))
    (λ t. let x = eqb-false a 1 t in let y = eqb-false b 1 (sym e ∙ t) in omega (arith, x, y))

low_bit : (m n : ℕ) → bit 0 m ≡ bit 0 n → m % 2 ≡ n % 2
low_bit m n e =
    same_digit (m % 2) (n % 2) (omega arith) (omega arith)
    (sym (ap (λ (x : ℕ). eqb (x % 2) 1) (div-one m)) ∙ e ∙ ap (λ (x : ℕ). eqb (x % 2) 1) (div-one n))

high_bits : (k m : ℕ) → values k (λ u. bit (suc u) m) ≡ values k (λ u. bit u (m / 2))
high_bits k m =
    values_same k (λ u. bit (suc u) m) (λ u. bit u (m / 2))
    (λ u l. ap (λ (x : ℕ). eqb (x % 2) 1) (ap (λ (p : ℕ). m / p) (pow-suc 2 u ∙ mul_comm (2 ^ u) 2) ∙ sym (div-div-eq-div-mul m 2 (2 ^ u))))

same_bits : (k m n : ℕ) → m < 2 ^ k → n < 2 ^ k → values k (λ u. bit u m) ≡ values k (λ u. bit u n) → m ≡ n
same_bits zero m n h l e = omega arith
same_bits (suc k) m n h l e =
    let p = pow-suc 2 k in
    let first : bit 0 m ≡ bit 0 n = heads _ _ _ _ e in
    let rest : values k (λ u. bit (suc u) m) ≡ values k (λ u. bit (suc u) n) = tails _ _ _ _ e in
    let high = same_bits k (m / 2) (n / 2) (omega (arith, p)) (omega (arith, p)) (sym (high_bits k m) ∙ rest ∙ high_bits k n) in
    let low = low_bit m n first in
    omega (arith, high, low)
  where
    heads : (a b : Bool) (xs ys : List Bool) → a ∷ xs ≡ b ∷ ys → a ≡ b
    heads a b xs ys q = cc

    tails : (a b : Bool) (xs ys : List Bool) → a ∷ xs ≡ b ∷ ys → xs ≡ ys
    tails a b xs ys q = cc

-- Two numbers that mark the same places are one.
pub one_number : (m n : ℕ) → m < 2 ^ places → n < 2 ^ places → marks_in m ≡ marks_in n → m ≡ n
one_number m n = go places
  where
    go : (k : ℕ) → m < 2 ^ k → n < 2 ^ k → values k (λ u. bit u m) ≡ values k (λ u. bit u n) → m ≡ n
    go k = same_bits k m n

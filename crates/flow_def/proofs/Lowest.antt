-- The lowest bit of a number that is not 0, and the number without it.
use mathlib.Core.Path.{◌≡◌, refl, sym, ◌∙◌, ap, subst}
use mathlib.Core.Bool.{true, false}
use Prim.Native.Nat.{ℕ, zero, suc, ◌-◌, ◌*◌, ◌/◌, ◌%◌, ◌^◌, ◌<◌}
use native.Mathlib.Nat.{pow-suc, pow-succ', div-one, div-div-eq-div-mul, div-lt_iff_lt-mul, zero-lt-suc, mul-mod_left}
use native.Mathlib.Omega.{arith}
use lib.Dec.{eqb}
use lib.Bits.{bit_and, and_step, and_self}
use lib.Count.{count_trailing_zeros}
use Rattle.num_bytes.specs.Sums.{bit}

-- The bits of a number's half are its own from the second on.
half_bit : (h m : ℕ) → bit (suc h) m ≡ bit h (m / 2)
half_bit h m = ap (λ (x : ℕ). eqb (x % 2) 1) (ap (λ (x : ℕ). m / x) (pow-succ' 2 h) ∙ sym (div-div-eq-div-mul m 2 (2 ^ h)))

first_bit : (m : ℕ) → bit 0 m ≡ eqb (m % 2) 1
first_bit m = ap (λ (x : ℕ). eqb (x % 2) 1) (div-one m)

half_small : (k m : ℕ) → m < 2 ^ suc k → m / 2 < 2 ^ k
half_small k m l = (div-lt_iff_lt-mul (zero-lt-suc 1)).1 (subst (λ (x : ℕ). m < x) (pow-suc 2 k) l)

-- The first bit is 0 or 1.
parity : {A : Type 0} (m : ℕ) → (m % 2 ≡ 0 → A) → (m % 2 ≡ 1 → A) → A
parity {A} m f g = go (m % 2) refl
  where
    go : (r : ℕ) → m % 2 ≡ r → A
    go zero e = f e
    go (suc zero) e = g e
    go (suc (suc r)) e = absurd (omega arith)

-- The lowest bit is one, and there is none below it.
pub lowest : (k m : ℕ) → 0 < m → m < 2 ^ k → bit (count_trailing_zeros k m) m ≡ true
unfolding count_trailing_zeros
lowest zero m p l = absurd (omega arith)
lowest (suc k) m p l = parity m
    (λ e. rw e (half_bit (count_trailing_zeros k (m / 2)) m ∙ lowest k (m / 2) (omega arith) (half_small k m l)))
    (λ e. rw e (first_bit m ∙ rw e))

-- No bit below it is set.
pub below_lowest : (k m h : ℕ) → h < count_trailing_zeros k m → bit h m ≡ false
unfolding count_trailing_zeros
below_lowest zero m h l = absurd (omega arith)
below_lowest (suc k) m zero l = parity m (λ e. first_bit m ∙ rw e) (λ e. absurd (none e))
  where
    none : m % 2 ≡ 1 → ⊥
    none e = omega (arith, rw e at l)
below_lowest (suc k) m (suc h) l = parity m (λ e. half_bit h m ∙ below_lowest k (m / 2) h (some e)) (λ e. absurd (none e))
  where
    some : m % 2 ≡ 0 → h < count_trailing_zeros k (m / 2)
    some e = omega (arith, rw e at l)

    none : m % 2 ≡ 1 → ⊥
    none e = omega (arith, rw e at l)

-- The number without it.
even_and : (m : ℕ) → 0 < m → m % 2 ≡ 0 → bit_and m (m - 1) ≡ bit_and (m / 2) (m / 2 - 1) * 2
even_and m p e =
    let a : (m - 1) / 2 ≡ m / 2 - 1 = omega arith in
    let b : (m - 1) % 2 ≡ 1 = omega arith in
    and_step m (m - 1) ∙ rw (a, b, e) (omega arith)

odd_and : (m : ℕ) → m % 2 ≡ 1 → bit_and m (m - 1) ≡ m / 2 * 2
odd_and m e =
    let a : (m - 1) / 2 ≡ m / 2 = omega arith in
    let b : (m - 1) % 2 ≡ 0 = omega arith in
    and_step m (m - 1) ∙ rw (a, b, e) (rw (and_self (m / 2)) (omega arith))

double_half : (x : ℕ) → x * 2 / 2 ≡ x
double_half x = omega arith

double_first : (x : ℕ) → bit 0 (x * 2) ≡ false
double_first x = first_bit (x * 2) ∙ rw (mul-mod_left x 2)

double_next : (h x : ℕ) → bit (suc h) (x * 2) ≡ bit h x
double_next h x = half_bit h (x * 2) ∙ rw (double_half x)

-- It is gone from the number without it.
pub without_lowest : (k m : ℕ) → 0 < m → m < 2 ^ k → bit (count_trailing_zeros k m) (bit_and m (m - 1)) ≡ false
unfolding count_trailing_zeros
without_lowest zero m p l = absurd (omega arith)
without_lowest (suc k) m p l = parity m
    (λ e. rw (even_and m p e, e) (double_next (count_trailing_zeros k (m / 2)) (bit_and (m / 2) (m / 2 - 1)) ∙ without_lowest k (m / 2) (omega arith) (half_small k m l)))
    (λ e. rw (odd_and m e, e) (double_first (m / 2)))

-- And all others are there.
pub with_others : (k m h : ℕ) → 0 < m → m < 2 ^ k → (h ≡ count_trailing_zeros k m → ⊥) → bit h (bit_and m (m - 1)) ≡ bit h m
unfolding count_trailing_zeros
with_others zero m h p l q = absurd (omega arith)
with_others (suc k) m zero p l q = parity m (λ e. rw (even_and m p e) (double_first (bit_and (m / 2) (m / 2 - 1)) ∙ sym (first_bit m ∙ rw e))) (λ e. absurd (q (rw e)))
with_others (suc k) m (suc h) p l q = parity m
    (λ e. rw (even_and m p e) (double_next h (bit_and (m / 2) (m / 2 - 1)) ∙ with_others k (m / 2) h (omega arith) (half_small k m l) (λ o. q (rw (e, o))) ∙ sym (half_bit h m)))
    (λ e. rw (odd_and m e) (double_next h (m / 2) ∙ sym (half_bit h m)))

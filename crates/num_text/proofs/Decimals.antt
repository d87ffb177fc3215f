-- Decimals: one digit more, and how many there are.
use mathlib.Core.Path.{◌≡◌, refl, sym, ap, ◌∙◌}
use mathlib.Core.List.{List, [], ◌∷◌, ◌++◌}
use Prim.Native.Nat.{ℕ, zero, suc, ◌+◌, ◌/◌, ◌%◌, ◌^◌, ◌<◌, ◌≤◌}
use native.Mathlib.Omega.{arith}
use native.Mathlib.Nat.{pow-succ', mul_comm, div-lt_iff_lt-mul}
use borrow.Author.Tests.{lt-ltb, le-ltb, ltb-true, ltb-false}
use lib.Dec.{ltb, lit<}
use lib.ListN.{length, length-append}
use Rattle.num_bytes.proofs.Tests.{by_cases}
use Rattle.num_text.specs.Numerals.{text, digit, digits_of, decimal, field}

-- Below 10 there is one digit; from 10 on the digits before the last are those of the tenth.
few : (f n : ℕ) → n < 10 → digits_of f n ≡ digit n ∷ []
few zero n h = refl
few (suc f) n h = simp (lt-ltb n 10 h)

more : (f n : ℕ) → 10 ≤ n → digits_of (suc f) n ≡ digits_of f (n / 10) ++ (digit (n % 10) ∷ [])
more f n h = simp (le-ltb n 10 h)

-- More digits allowed than there are change nothing.
enough : (f g n : ℕ) → n ≤ f → n ≤ g → digits_of f n ≡ digits_of g n
enough zero g n h k = sym (few g n (omega arith))
enough (suc f) zero n h k = few (suc f) n (omega arith)
enough (suc f) (suc g) n h k =
    by_cases (ltb n 10)
    (λ t. let l = ltb-true n 10 t in few (suc f) n l ∙ sym (few (suc g) n l))
    (λ t. let l = ltb-false n 10 t in
    more f n l ∙ ap (λ (d : List ℕ). d ++ (digit (n % 10) ∷ [])) (enough f g (n / 10) (omega arith) (omega arith)) ∙ sym (more g n l))

-- A number of one digit.
pub decimal_one : (n : ℕ) → n < 10 → decimal n ≡ digit n ∷ []
unfolding decimal
decimal_one n h = few n n h

-- A longer one: the digits of its tenth, then its last digit.
pub decimal_more : (n : ℕ) → 10 ≤ n → decimal n ≡ decimal (n / 10) ++ (digit (n % 10) ∷ [])
unfolding decimal
decimal_more zero h = absurd (omega arith)
decimal_more (suc m) h =
    more m (suc m) h ∙ ap (λ (d : List ℕ). d ++ (digit (suc m % 10) ∷ [])) (enough m (suc m / 10) (suc m / 10) (omega arith) (omega arith))

-- It is one longer than its tenth.
pub more_size : (n : ℕ) → 10 ≤ n → length (decimal n) ≡ length (decimal (n / 10)) + 1
more_size n h = ap length (decimal_more n h) ∙ length-append (decimal (n / 10)) (digit (n % 10) ∷ [])

-- A number below a power of 10 has no more digits than that.
most : (f k n : ℕ) → n < 10 ^ suc k → length (digits_of f n) ≤ suc k
most zero k n h = omega arith
most (suc f) zero n h = ap_le (few (suc f) n (omega arith))
  where
    ap_le : digits_of (suc f) n ≡ digit n ∷ [] → length (digits_of (suc f) n) ≤ 1
    ap_le e = rw e (omega arith)
most (suc f) (suc k) n h =
    by_cases (ltb n 10)
    (λ t. rw t (omega arith))
    (λ t. rw t (go (most f k (n / 10) ((div-lt_iff_lt-mul (lit< tt)).1 (rw (pow-succ' 10 (suc k), mul_comm 10 (10 ^ suc k)) at h)))))
  where
    go : length (digits_of f (n / 10)) ≤ suc k → length (digits_of f (n / 10) ++ (digit (n % 10) ∷ [])) ≤ suc (suc k)
    go i = omega (arith, length-append (digits_of f (n / 10)) (digit (n % 10) ∷ []))

-- A number below 10 to the k + 1 has at most k + 1 digits.
pub decimal_most : (k n : ℕ) → n < 10 ^ suc k → length (decimal n) ≤ suc k
unfolding decimal
decimal_most k n h = most n k n h

-- A number and the blank behind it.
pub field_size : (n : ℕ) → length (field n) ≡ length (decimal n) + 1
field_size n = length-append (decimal n) (text " ")

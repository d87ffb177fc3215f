-- Counting the numbers below n that pass a test; the most of their values.
use mathlib.Core.Path.{◌≡◌, refl}
use mathlib.Core.Bool.{Bool, true, false, not, ◌&&◌}
use Prim.Native.Nat.{ℕ, zero, suc, ◌+◌, ◌≤◌, ◌<◌, max}
use native.Mathlib.Omega.{arith}
use native.Mathlib.Decide.{ℕ_discrete}
use borrow.Author.Tests.{eq-eqb}
use lib.Dec.{eqb}
use Rattle.num_bytes.specs.Choice.{pick}
use Rattle.num_bytes.specs.Sums.{count_to}

-- A test as a number.
abbrev pub one : Bool → ℕ
one b = pick b 1 0

-- A test counts once at most.
pub one_most : (b : Bool) → one b ≤ 1
one_most true = omega arith
one_most false = omega arith

-- At most n of the numbers below n pass.
pub count_few : (n : ℕ) (f : ℕ → Bool) → count_to n f ≤ n
count_few zero f = omega arith
count_few (suc n) f = omega (arith, one_most (f n), count_few n f)

-- An order of numbers at each place is one of their sums; stated of four tests, two on each side.
pub count_four : (n : ℕ) (f g h i : ℕ → Bool) → ((k : ℕ) → k < n → one (f k) + one (g k) ≤ one (h k) + one (i k))
    → count_to n f + count_to n g ≤ count_to n h + count_to n i
count_four zero f g h i e = omega arith
count_four (suc n) f g h i e = omega (arith, e n (omega arith), count_four n f g h i (λ k l. e k (omega arith)))

-- The same where one number m makes up for one more.
pub count_strict : (n m : ℕ) (f g h i : ℕ → Bool) → m < n → one (f m) + one (g m) < one (h m) + one (i m)
    → ((k : ℕ) → k < n → (k ≡ m → ⊥) → one (f k) + one (g k) ≤ one (h k) + one (i k))
    → count_to n f + count_to n g < count_to n h + count_to n i
count_strict zero m f g h i l s e = absurd (omega arith)
count_strict (suc n) m f g h i l s e = elim (ℕ_discrete n m) [
  | yes q ↦ omega (arith, here q, count_four n f g h i (λ k b. e k (omega arith) (λ z. omega arith)))
  | no q ↦ omega (arith, e n (omega arith) q, count_strict n m f g h i (omega arith) s (λ k b. e k (omega arith)))
]
  where
    here : n ≡ m → one (f n) + one (g n) < one (h n) + one (i n)
    here q = rw q s

-- Tests that agree below n have one count.
pub count_same : (n : ℕ) (f g : ℕ → Bool) → ((k : ℕ) → k < n → f k ≡ g k) → count_to n f ≡ count_to n g
count_same zero f g e = refl
count_same (suc n) f g e = rw (e n (omega arith), count_same n f g (λ k l. e k (omega arith)))

-- A test that holds wherever another does has at least its count.
pub count_le : (n : ℕ) (f g : ℕ → Bool) → ((k : ℕ) → k < n → one (f k) ≤ one (g k)) → count_to n f ≤ count_to n g
count_le zero f g e = omega arith
count_le (suc n) f g e = omega (arith, e n (omega arith), count_le n f g (λ k l. e k (omega arith)))

-- A test that no number passes has count 0.
pub count_none : (n : ℕ) (f : ℕ → Bool) → ((k : ℕ) → k < n → f k ≡ false) → count_to n f ≡ 0
count_none zero f e = refl
count_none (suc n) f e = rw (e n (omega arith)) (omega (arith, count_none n f (λ k l. e k (omega arith))))

-- A test that all numbers pass has count n.
pub count_all : (n : ℕ) → count_to n (λ k. true) ≡ n
count_all zero = refl
count_all (suc n) = omega (arith, count_all n)

-- Number i alone passes the second test and not the first.
pub count_one : (n i : ℕ) (f g : ℕ → Bool) → i < n → f i ≡ false → g i ≡ true → ((k : ℕ) → k < n → (k ≡ i → ⊥) → f k ≡ g k)
    → count_to n g ≡ suc (count_to n f)
count_one zero i f g l s t e = absurd (omega arith)
count_one (suc n) i f g l s t e = elim (ℕ_discrete n i) [
  | yes q ↦ rw (last q f s, last q g t) (omega (arith, count_same n f g (λ k b. e k (omega arith) (λ z. omega arith))))
  | no q ↦ rw (e n (omega arith) q) (omega (arith, count_one n i f g (omega arith) s t (λ k b. e k (omega arith))))
]
  where
    last : n ≡ i → (h : ℕ → Bool) {b : Bool} → h i ≡ b → h n ≡ b
    last q h t = rw q t

-- What passes two tests passes the first.
pub one_and : (a b : Bool) → one (a && b) ≤ one a
one_and true true = omega arith
one_and true false = omega arith
one_and false b = omega arith

-- All but number i, which passes: at least one less.
pub count_but : (n i : ℕ) (f : ℕ → Bool) → i < n → f i ≡ true → suc (count_to n (λ k. f k && not (eqb k i))) ≤ count_to n f
count_but zero i f l t = absurd (omega arith)
count_but (suc n) i f l t = elim (ℕ_discrete n i) [
  | yes q ↦ rw (eq-eqb n i q, mine q) (omega (arith, count_le n (λ k. f k && not (eqb k i)) f (λ k b. one_and (f k) (not (eqb k i)))))
  | no q ↦ omega (arith, one_and (f n) (not (eqb n i)), count_but n i f (omega arith) t)
]
  where
    mine : n ≡ i → f n ≡ true
    mine q = rw q t

-- The first number apart.
pub count_front : (n : ℕ) (f : ℕ → Bool) → count_to (suc n) f ≡ one (f 0) + count_to n (λ k. f (suc k))
count_front zero f = refl
count_front (suc n) f = omega (arith, count_front n f)

-- The most of the values below n.
abbrev pub most : ℕ → (ℕ → ℕ) → ℕ
most zero f = 0
most (suc n) f = max (f n) (most n f)

-- Each value is at most the most of them.
pub most_le : (n : ℕ) (f : ℕ → ℕ) (k : ℕ) → k < n → f k ≤ most n f
most_le zero f k l = absurd (omega arith)
most_le (suc n) f k l = elim (ℕ_discrete k n) [
  | yes q ↦ rw q (omega arith)
  | no q ↦ omega (arith, most_le n f k (omega arith))
]

-- The price of a set, counted layer by layer: how many of its streams cost more than t, for each t.
use mathlib.Core.Path.{◌≡◌, refl, sym}
use mathlib.Core.Bool.{Bool, true, false, ◌&&◌}
use Prim.Native.Nat.{ℕ, zero, suc, ◌+◌, ◌*◌, ◌≤◌, ◌<◌}
use native.Mathlib.Nat.{mul-le-mul_right}
use native.Mathlib.Omega.{arith}
use native.Mathlib.Decide.{ℕ_discrete, dec_le}
use borrow.Author.Tests.{lt-ltb, le-ltb, ltb-true, leb-true, le-leb, eqb-true, eq-eqb}
use lib.Dec.{eqb, ltb, leb}
use Rattle.num_bytes.specs.Choice.{pick}
use Rattle.num_bytes.proofs.Tests.{or_cases, or_left, or_right, and_left, and_right, and_both, same_test}
use Rattle.num_bytes.specs.Sums.{count_to}
use Rattle.num_bytes.proofs.Counts.{one, most, most_le}
use Rattle.purchase_def.specs.Purchases.{prices_to}
use Rattle.purchase_def.specs.Choosing.{before}
use Rattle.purchase_def.proofs.Keeping.{Ordered}

-- f 0 + .. + f (n - 1)
abbrev pub sum_to : ℕ → (ℕ → ℕ) → ℕ
sum_to zero f = 0
sum_to (suc n) f = f n + sum_to n f

-- Sums of parts, none of which is above the other.
pub sum_le : (n : ℕ) (f g : ℕ → ℕ) → ((k : ℕ) → k < n → f k ≤ g k) → sum_to n f ≤ sum_to n g
sum_le zero f g h = omega arith
sum_le (suc n) f g h = omega (arith, h n (omega arith), sum_le n f g (λ k l. h k (omega arith)))

-- Of equal sums the parts are equal.
pub sum_tight : (n : ℕ) (f g : ℕ → ℕ) → ((k : ℕ) → k < n → f k ≤ g k) → sum_to n f ≡ sum_to n g → (k : ℕ) → k < n → f k ≡ g k
sum_tight zero f g h e k l = absurd (omega arith)
sum_tight (suc n) f g h e k l = elim (ℕ_discrete k n) [
  | yes q ↦ rw q (omega (arith, h n (omega arith), sum_le n f g (λ j b. h j (omega arith))))
  | no q ↦ sum_tight n f g (λ j b. h j (omega arith)) (omega (arith, h n (omega arith), sum_le n f g (λ j b. h j (omega arith)))) k (omega arith)
]

sum_plus : (n : ℕ) (f g : ℕ → ℕ) → sum_to n (λ k. f k + g k) ≡ sum_to n f + sum_to n g
sum_plus zero f g = refl
sum_plus (suc n) f g = omega (arith, sum_plus n f g)

sum_none : (n : ℕ) → sum_to n (λ k. 0) ≡ 0
sum_none zero = refl
sum_none (suc n) = omega (arith, sum_none n)

-- A number is the count of the numbers below it.
layer : (m q : ℕ) → (q ≤ m → sum_to m (λ t. one (ltb t q)) ≡ q) × (m ≤ q → sum_to m (λ t. one (ltb t q)) ≡ m)
layer zero q = (λ h. omega arith, λ h. refl)
layer (suc m) q = (
  λ h. elim (dec_le q m) [
    | yes l ↦ rw (le-ltb m q l) (omega (arith, (layer m q).0 l))
    | no l ↦ rw (lt-ltb m q (omega arith)) (omega (arith, (layer m q).1 (omega arith)))
  ],
  λ h. rw (lt-ltb m q (omega arith)) (omega (arith, (layer m q).1 (omega arith))),
)

layer_if : (m q : ℕ) (b : Bool) → q ≤ m → sum_to m (λ t. one (b && ltb t q)) ≡ pick b q 0
layer_if m q true h = (layer m q).0 h
layer_if m q false h = sum_none m

-- A sum of prices, layer by layer.
pub layers : (m n : ℕ) (test : ℕ → Bool) (price : ℕ → ℕ) → ((k : ℕ) → k < n → price k ≤ m)
    → prices_to n test price ≡ sum_to m (λ t. count_to n (λ k. test k && ltb t (price k)))
layers m zero test price h = sym (sum_none m)
layers m (suc n) test price h =
    omega (
      arith,
      layers m n test price (λ k l. h k (omega arith)),
      layer_if m (price n) (test n) (h n (omega arith)),
      sum_plus m (λ t. one (test n && ltb t (price n))) (λ t. count_to n (λ k. test k && ltb t (price k))),
    )

-- Prices, equal ones by number, as one value: n streams.
module _ (n : ℕ) (price : ℕ → ℕ) where
  -- Price and number in one value.
  abbrev pub value : ℕ → ℕ
  value k = price k * n + k

  -- A dearer stream has the higher value.
  dear : (i j : ℕ) → i < n → price i < price j → value i < value j
  dear i j l h = omega (arith, mul-le-mul_right n h)

  -- A price above t, by the values.
  pub value_layer : (t k : ℕ) → k < n → ltb t (price k) ≡ leb (suc t * n) (value k)
  value_layer t k l =
      same_test (ltb t (price k)) (leb (suc t * n) (value k))
      (λ e. le-leb (suc t * n) (value k) (omega (arith, mul-le-mul_right n (ltb-true t (price k) e))))
      (λ e. elim (dec_le (suc t) (price k)) [
        | yes h ↦ lt-ltb t (price k) h
        | no h ↦
            let low : price k ≤ t = omega arith in
            absurd (omega (arith, leb-true (suc t * n) (value k) e, mul-le-mul_right n low))
      ])

  -- The values are in the order of the streams.
  pub ordered : Ordered n (before price) value (suc (most n price) * n)
  ordered = record {
    under = λ k l. omega (arith, mul-le-mul_right n (most_le n price k l));
    distinct = λ i j l b e. elim (dec_le (suc (price i)) (price j)) [
      | yes h ↦ absurd (omega (arith, dear i j l h))
      | no h ↦ elim (dec_le (suc (price j)) (price i)) [
        | yes g ↦ absurd (omega (arith, dear j i b g))
        | no g ↦ let q : price i ≡ price j = omega arith in let z : price i * n ≡ price j * n = rw q in omega arith
      ]
    ];
    more = λ i j l b e. or_cases (ltb (price i) (price j)) _ e (λ h. dear i j l (ltb-true _ _ h))
        (λ h.
        let q = eqb-true (price i) (price j) (and_left (eqb (price i) (price j)) (ltb i j) h) in
        let z : price i * n ≡ price j * n = rw q in
        omega (arith, ltb-true i j (and_right (eqb (price i) (price j)) (ltb i j) h)));
    goes_on = λ i j l b e. elim (dec_le (suc (price i)) (price j)) [
      | yes h ↦ or_left (ltb (price i) (price j)) _ (lt-ltb _ _ h)
      | no h ↦ elim (dec_le (suc (price j)) (price i)) [
        | yes g ↦ absurd (omega (arith, dear j i b g))
        | no g ↦
            let q : price i ≡ price j = omega arith in
            let z : price i * n ≡ price j * n = rw q in
            or_right (ltb (price i) (price j)) _ (and_both (eqb (price i) (price j)) (ltb i j) (eq-eqb _ _ q) (lt-ltb i j (omega arith)))
      ]
    ];
  }

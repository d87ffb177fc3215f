-- The sets of n streams are the bits of the numbers below 2 ^ n.
use mathlib.Core.Path.{◌≡◌, refl, sym, ◌∙◌, ap, ap₂}
use mathlib.Core.Bool.{Bool, true, false, not, ◌&&◌}
use mathlib.Core.List.{List, ◌∷◌}
use Prim.Native.Nat.{ℕ, zero, suc, ◌+◌, ◌*◌, ◌/◌, ◌%◌, ◌^◌, ◌<◌}
use native.Mathlib.Nat.{mul-add-mod_self_right, mul-add-div_right, div-div-eq-div-mul, zero-lt-suc, add-zero, div-one, pow-suc, pow-succ', mod-eq_of_lt, div-eq_of_lt}
use native.Mathlib.Omega.{arith}
use lib.Dec.{eqb}
use lib.ListN.{length}
use Rattle.num_bytes.specs.Choice.{pick}
use Rattle.num_bytes.specs.Inner.{values}
use Rattle.plant_def.specs.declared.Stream.{Stream}
use Rattle.num_bytes.specs.Sums.{bit, count_to}
use Rattle.num_bytes.proofs.Lists.{values_at, values_same}
use Rattle.flow_def.proofs.Labels.{labels_same}
use Rattle.flow_def.specs.Metering.{chosen}
use Rattle.num_bytes.proofs.Counts.{count_same, count_front}
use Rattle.flow_def.proofs.Certified.{every_same}
use Rattle.survey_def.specs.Layouts.{size, sets_of}
use Rattle.survey_def.specs.Inner.{bit_off, each_meets, count_below}
use Rattle.survey_def.proofs.Deciding.{left_out, each_joins}

-- The set whose yes and no are the bits of a number.
abbrev set_at : ℕ → ℕ → List Bool
set_at n m = values n (λ k. bit k m)

-- The bits of a number twice another, or one more.
bit_first : (m d : ℕ) → d < 2 → bit 0 (m * 2 + d) ≡ eqb d 1
bit_first m d h = ap (λ (x : ℕ). eqb x 1) (ap (λ (x : ℕ). x % 2) (div-one (m * 2 + d)) ∙ mul-add-mod_self_right m 2 d ∙ mod-eq_of_lt h)

bit_next : (m d k : ℕ) → d < 2 → bit (suc k) (m * 2 + d) ≡ bit k m
bit_next m d k h = ap (λ (x : ℕ). eqb (x % 2) 1) (ap (λ (x : ℕ). (m * 2 + d) / x) (pow-succ' 2 k) ∙ sym (div-div-eq-div-mul (m * 2 + d) 2 (2 ^ k)) ∙ ap (λ (x : ℕ). x / 2 ^ k) half)
  where
    half : (m * 2 + d) / 2 ≡ m
    half = mul-add-div_right (zero-lt-suc 1) m d ∙ ap (λ (x : ℕ). m + x) (div-eq_of_lt h) ∙ add-zero m

count_twice : (n : ℕ) (f : ℕ → Bool) → count_to (n * 2) f ≡ count_to n (λ m. f (m * 2 + 1)) + count_to n (λ m. f (m * 2 + 0))
count_twice zero f = refl
count_twice (suc n) f =
    let e : suc n * 2 ≡ suc (suc (n * 2)) = omega arith in
    rw e (omega (arith, count_twice n f, ap (λ k. pick {A = ℕ} (f k) 1 0) (odd n), ap (λ k. pick {A = ℕ} (f k) 1 0) (even n)))
  where
    odd : (n : ℕ) → suc (n * 2) ≡ n * 2 + 1
    odd n = omega arith

    even : (n : ℕ) → n * 2 ≡ n * 2 + 0
    even n = omega arith

sets_by_number : (n : ℕ) (test : List Bool → Bool) → sets_of n test ≡ count_to (2 ^ n) (λ m. test (set_at n m))
sets_by_number zero test = omega arith
sets_by_number (suc n) test =
    ap₂ ◌+◌ (sets_by_number n (λ set. test (true ∷ set)) ∙ count_same (2 ^ n) _ _ (λ m l. ap test (sym (set_next 1 true m (omega arith) refl))))
    (sets_by_number n (λ set. test (false ∷ set)) ∙ count_same (2 ^ n) _ _ (λ m l. ap test (sym (set_next 0 false m (omega arith) refl))))
    ∙ sym (count_twice (2 ^ n) (λ m. test (set_at (suc n) m)))
    ∙ ap (λ (x : ℕ). count_to x (λ m. test (set_at (suc n) m))) (sym (pow-suc 2 n))
  where
    set_next : (d : ℕ) (b : Bool) (m : ℕ) → d < 2 → eqb d 1 ≡ b → set_at (suc n) (m * 2 + d) ≡ b ∷ set_at n m
    set_next d b m h e = rw (bit_first m d h, e, values_same n (λ k. bit (suc k) (m * 2 + d)) (λ k. bit k m) (λ k l. bit_next m d k h))

-- The set of a number, by its bits.
size_values : (n : ℕ) (f : ℕ → Bool) → size (values n f) ≡ count_to n f
size_values zero f = refl
size_values (suc n) f = omega (arith, size_values n (λ k. f (suc k)), count_front n f)

bits_join : (ss : List Stream) (m : ℕ) → each_joins (set_at (length ss) m) ss ≡ each_meets m ss
bits_join ss m =
    every_same (length ss) _ _ (λ k l. rw (at k l, labels_same (left_out (set_at (length ss) m)) (bit_off m) ss k (λ j h. ap not (at j (omega arith)))))
  where
    at : (k : ℕ) → k < length ss → chosen (set_at (length ss) m) k ≡ bit k m
    at k l = values_at (λ k. bit k m) false (length ss) k l

-- The sets of k streams that leave streams without a loop, number by number.
pub sets_below : (ss : List Stream) (k : ℕ) → sets_of (length ss) (λ set. eqb (size set) k && each_joins set ss) ≡ count_below ss k (2 ^ length ss)
sets_below ss k =
    let n = length ss in
    sets_by_number n (λ set. eqb (size set) k && each_joins set ss)
    ∙ count_same (2 ^ n) _ _ (λ m l. rw (size_values n (λ j. bit j m), bits_join ss m))

-- Two's complement, at any width; and the signed words of the code.
use mathlib.Core.Path.{◌≡◌, refl, sym, ap, ◌∙◌}
use mathlib.Core.Bool.{Bool, true, false, false≢true}
use lib.IntN.{ℤ, pos, negsuc, ◌-ℤ◌, nat_abs}
use lib.Signed.{le_z, lt_z, non_neg}
use lib.Dec.{ltb, T}
use Prim.Native.Nat.{ℕ, zero, suc, ◌+◌, ◌-◌, ◌*◌, ◌<◌, ◌≤◌, ◌^◌, zero-le}
use native.Mathlib.Omega.{arith}
use borrow.Author.Tests.{ltb-true, ltb-false, lt-ltb, le-ltb, le-leb, leb-true}
use mir.Syntax.{Width}
use mir.Val.{to_z, of_z, SFits, Fits, bits, hbits}
use mir.Facts.{to_z-of_z, to_z_pos}
use Rattle.num_bytes.specs.Bytes.{raw, signed, holds}
use Rattle.num_bytes.proofs.Tests.{picked}

-- Of size 0 is 0 alone.
pub zero_size : (z : ℤ) → nat_abs z ≡ 0 → pos 0 ≡ z
zero_size (pos a) e = ap pos (sym e)
zero_size (negsuc a) e = absurd (omega arith)

module _ (n : ℕ) where
  signed_low : (v : ℕ) → 2 * v < 256 ^ n → signed n v ≡ pos v
  signed_low v h = simp (lt-ltb (2 * v) (256 ^ n) h)

  signed_high : (v : ℕ) → 256 ^ n ≤ 2 * v → signed n v ≡ negsuc (256 ^ n - suc v)
  signed_high v h = simp (le-ltb (2 * v) (256 ^ n) h)

  -- Bits read as a signed number and held again.
  pub raw_signed : (v : ℕ) → v < 256 ^ n → raw n (signed n v) ≡ v
  raw_signed v h = go (ltb (2 * v) (256 ^ n)) refl
    where
      go : (t : Bool) → ltb (2 * v) (256 ^ n) ≡ t → raw n (signed n v) ≡ v
      go true e = simp e
      go false e = simp e (omega arith)

  -- A number that n bytes hold.
  pub held_back : (z : ℤ) → holds n z ≡ true → signed n (raw n z) ≡ z
  held_back (pos a) h = signed_low a (ltb-true (2 * a) (256 ^ n) h)
  held_back (negsuc a) h =
      let l = leb-true (2 * suc a) (256 ^ n) h in
      let e : 256 ^ n - suc (256 ^ n - suc a) ≡ a = omega arith in
      signed_high (256 ^ n - suc a) (omega arith) ∙ ap negsuc e

  -- What n bytes hold of a number fits them.
  pub held_fits : (z : ℤ) → holds n z ≡ true → raw n z < 256 ^ n
  held_fits (pos a) h = let l = ltb-true (2 * a) (256 ^ n) h in omega arith
  held_fits (negsuc a) h = let l = leb-true (2 * suc a) (256 ^ n) h in omega arith

  -- What n bytes stand for is held by n bytes.
  pub signed_held : (v : ℕ) → v < 256 ^ n → holds n (signed n v) ≡ true
  signed_held v h =
      picked (λ (z : ℤ). holds n z ≡ true) (ltb (2 * v) (256 ^ n)) (pos v) (negsuc (256 ^ n - suc v)) (λ t. t)
      (λ t. let l = ltb-false (2 * v) (256 ^ n) t in le-leb (2 * suc (256 ^ n - suc v)) (256 ^ n) (omega arith))

  -- A number far from the edges is held.
  pub small_held : (z : ℤ) → 2 * nat_abs z < 256 ^ n → holds n z ≡ true
  small_held (pos a) h = lt-ltb (2 * a) (256 ^ n) h
  small_held (negsuc a) h = le-leb (2 * suc a) (256 ^ n) (omega arith)

  -- A number far from the edges, held and read again.
  pub signed_raw : (z : ℤ) → 2 * nat_abs z < 256 ^ n → signed n (raw n z) ≡ z
  signed_raw z h = held_back z (small_held z h)

  -- It fits n bytes.
  pub raw_fits : (z : ℤ) → 2 * nat_abs z < 256 ^ n → raw n z < 256 ^ n
  raw_fits z h = held_fits z (small_held z h)

-- A signed word w of n bytes.
module _ (w : Width) (n : ℕ) (whole : 2 ^ bits w ≡ 256 ^ n) (half : 2 * 2 ^ hbits w ≡ 256 ^ n) where
  -- A word read as signed is what its bytes stand for.
  pub word_signed : (v : ℕ) → to_z w v ≡ signed n v
  word_signed v = go (ltb v (2 ^ hbits w)) refl
    where
      go : (t : Bool) → ltb v (2 ^ hbits w) ≡ t → to_z w v ≡ signed n v
      go true e = let h = ltb-true v (2 ^ hbits w) e in simp e (sym (signed_low n v (omega arith)))
      go false e = let h = ltb-false v (2 ^ hbits w) e in simp e (ap (λ (k : ℕ). negsuc (k - suc v)) whole ∙ sym (signed_high n v (omega arith)))

  below_zero : (k : ℕ) → negsuc 0 -ℤ pos k ≡ negsuc k
  below_zero zero = refl
  below_zero (suc k) = ap negsuc (omega arith)

  -- The upper half of the bits v, k below the highest: −1 less k, which fits.
  module _ (v k : ℕ) (sum : k + suc v ≡ 256 ^ n) (upper : 256 ^ n ≤ 2 * v) where
    low : k < 2 ^ hbits w
    low = omega arith

    -- It fits the word,
    pub high_fits : SFits w (negsuc 0 -ℤ to_z w k)
    high_fits = rw (to_z_pos w low, below_zero k) (record { sfits = low })

    -- and is what the bytes stand for.
    pub high_is : to_z w (of_z w (negsuc 0 -ℤ to_z w k)) ≡ signed n v
    high_is =
        let e : k ≡ 256 ^ n - suc v = omega arith in
        to_z-of_z high_fits ∙ rw (to_z_pos w low, below_zero k) (ap negsuc e ∙ sym (signed_high n v upper))

-- A signed word that is at or above zero, or below it, and the number that is left.
module _ (w : Width) where
  -- At or above zero the word is a natural number.
  pub at_zero : (z : ℤ) → SFits w z → le_z (pos 0) (to_z w (of_z w z)) ≡ true
      → (k : ℕ) × (z ≡ pos k) × (k < 2 ^ hbits w) × (to_z w (of_z w z) ≡ pos k)
  at_zero z f t = go z f (rw (to_z-of_z f) at t)
    where
      go : (y : ℤ) → SFits w y → le_z (pos 0) y ≡ true → (k : ℕ) × (y ≡ pos k) × (k < 2 ^ hbits w) × (to_z w (of_z w y) ≡ pos k)
      go (pos k) g t = (k, refl, g.sfits, to_z-of_z {z = pos k} g)
      go (negsuc k) g t = absurd (false≢true t)

  -- Below zero it is −1 less the number that is left.
  pub under_zero : (z : ℤ) → SFits w z → le_z (pos 0) (to_z w (of_z w z)) ≡ false
      → (k : ℕ) × (z ≡ negsuc k) × (k < 2 ^ hbits w) × (negsuc 0 -ℤ to_z w (of_z w z) ≡ pos k)
  under_zero z f t = go z f (rw (to_z-of_z f) at t)
    where
      go : (y : ℤ) → SFits w y → le_z (pos 0) y ≡ false → (k : ℕ) × (y ≡ negsuc k) × (k < 2 ^ hbits w) × (negsuc 0 -ℤ to_z w (of_z w y) ≡ pos k)
      go (pos k) g t = absurd (false≢true (sym t ∙ le-leb 0 k zero-le))
      go (negsuc k) g t = (k, refl, g.sfits, rw (to_z-of_z {z = negsuc k} g) (simp (le-ltb (suc k) 1 (omega arith)) (ap pos (omega arith))))

-- A word at or above zero is a number as it stands: its size, and what any n bytes hold of it.
pub record Upright (w : Width) (z : ℤ) : Type 0 where
  pub cast : T (non_neg (to_z w (of_z w z))) × Fits w (nat_abs (to_z w (of_z w z)))
  pub size : nat_abs (to_z w (of_z w z)) ≡ nat_abs z
  pub bits : (n : ℕ) → nat_abs (to_z w (of_z w z)) ≡ raw n z

-- What is left of a word below zero: −1 less the word.
abbrev pub left_by : Width → ℤ → ℤ
left_by w z = negsuc 0 -ℤ to_z w (of_z w z)

-- It is a number; one more is the word's size, and it is missing from all bits.
pub record Inverted (w : Width) (z : ℤ) : Type 0 where
  pub fits : SFits w (left_by w z)
  pub cast : T (non_neg (to_z w (of_z w (left_by w z)))) × Fits w (nat_abs (to_z w (of_z w (left_by w z))))
  pub small : nat_abs (to_z w (of_z w (left_by w z))) < 2 ^ hbits w
  pub size : nat_abs (to_z w (of_z w (left_by w z))) + 1 ≡ nat_abs z
  pub bits : (n m : ℕ) → suc m ≡ 256 ^ n → m - nat_abs (to_z w (of_z w (left_by w z))) ≡ raw n z

module _ (w : Width) (half : 2 * 2 ^ hbits w ≡ 2 ^ bits w) (z : ℤ) (f : SFits w z) where
  -- A word that is tested to be at or above zero.
  pub upright : le_z (pos 0) (to_z w (of_z w z)) ≡ true → Upright w z
  upright t =
      let b = at_zero w z f t in
      record {
        cast = rw b.3 (tt, record { fits = omega (arith, b.2) });
        size = ap nat_abs b.3 ∙ sym (ap nat_abs b.1);
        bits = λ n. ap nat_abs b.3 ∙ sym (ap (raw n) b.1);
      }

  -- A word that is tested to be below zero.
  pub inverted : le_z (pos 0) (to_z w (of_z w z)) ≡ false → Inverted w z
  inverted t =
      let b = under_zero w z f t in
      let k : to_z w (of_z w (left_by w z)) ≡ pos b.0 = rw b.3 (to_z_pos w b.2) in
      record {
        fits = rw b.3 (record { sfits = b.2 });
        cast = rw k (tt, record { fits = omega (arith, b.2) });
        small = rw k b.2;
        size = ap (λ (y : ℤ). nat_abs y + 1) k ∙ one b.0 ∙ sym (ap nat_abs b.1);
        bits = λ n m e. ap (λ (y : ℤ). m - nat_abs y) k ∙ others b.0 n m e ∙ sym (ap (raw n) b.1);
      }
    where
      one : (j : ℕ) → j + 1 ≡ suc j
      one j = omega arith

      others : (j n m : ℕ) → suc m ≡ 256 ^ n → m - j ≡ 256 ^ n - suc j
      others j n m e = omega arith

-- A signed word held against a range by two tests, from −(m + 1) to m + 1.
module _ (w : Width) (m : ℕ) (z : ℤ) (f : SFits w z) where
  -- Below the range.
  pub below_range : lt_z (to_z w (of_z w z)) (negsuc m) ≡ true → suc m < nat_abs z
  below_range t = go z (rw (to_z-of_z f) at t)
    where
      go : (y : ℤ) → lt_z y (negsuc m) ≡ true → suc m < nat_abs y
      go (pos a) t = absurd (false≢true t)
      go (negsuc a) t = omega (arith, ltb-true m a t)

  -- Above it.
  pub above_range : lt_z (pos (suc m)) (to_z w (of_z w z)) ≡ true → suc m < nat_abs z
  above_range t = go z (rw (to_z-of_z f) at t)
    where
      go : (y : ℤ) → lt_z (pos (suc m)) y ≡ true → suc m < nat_abs y
      go (pos a) t = ltb-true (suc m) a t
      go (negsuc a) t = absurd (false≢true t)

  -- Neither below nor above.
  pub within_range : lt_z (to_z w (of_z w z)) (negsuc m) ≡ false → lt_z (pos (suc m)) (to_z w (of_z w z)) ≡ false → nat_abs z ≤ suc m
  within_range t u = go z (rw (to_z-of_z f) at t) (rw (to_z-of_z f) at u)
    where
      go : (y : ℤ) → lt_z y (negsuc m) ≡ false → lt_z (pos (suc m)) y ≡ false → nat_abs y ≤ suc m
      go (pos a) t u = ltb-false (suc m) a u
      go (negsuc a) t u = omega (arith, ltb-false m a t)

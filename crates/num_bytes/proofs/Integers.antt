-- Integers as differences of naturals: one rewriting takes every expression of sums, products and orders to naturals.
use mathlib.Core.Path.{◌≡◌, refl, ◌∙◌, ap}
use mathlib.Core.Bool.{true, false≢true}
use mathlib.Core.Logic.{◌↔◌, ◌⊎◌, inl, inr, ⊎_elim}
use lib.IntN.{ℤ, pos, negsuc, neg_ℤ, sub_ℕ, nat_abs, ◌+ℤ◌, ◌-ℤ◌, ◌*ℤ◌}
use lib.Signed.{le_z, lt_z}
use Prim.Native.Nat.{ℕ, zero, suc, ◌+◌, ◌-◌, ◌*◌, ◌≤◌, ◌<◌}
use native.Mathlib.Omega.{arith}
use native.Mathlib.Decide.{dec_le}
use borrow.Author.Tests.{lt-ltb, le-ltb, leb-true, le-leb, ltb-true}

-- How far an integer is above 0, or 0: z is up z less dn z, and one of them is 0.
abbrev pub up : ℤ → ℕ
up (pos a) = a
up (negsuc a) = 0

-- How far an integer is below 0, or 0.
abbrev pub dn : ℤ → ℕ
dn (pos a) = 0
dn (negsuc a) = suc a

-- An integer is not above and below 0 at once.
pub parts : (x : ℤ) → (up x ≡ 0) ⊎ (dn x ≡ 0)
parts (pos a) = inr refl
parts (negsuc a) = inl refl

-- Two integers of one value are one.
pub same : (x y : ℤ) → up x + dn y ≡ up y + dn x → x ≡ y
same (pos a) (pos b) h = ap pos (omega arith)
same (pos a) (negsuc b) h = absurd (omega arith)
same (negsuc a) (pos b) h = absurd (omega arith)
same (negsuc a) (negsuc b) h = ap negsuc (omega arith)

-- Equal integers, as an equation of naturals.
pub val : (x y : ℤ) → x ≡ y → up x + dn y ≡ up y + dn x
val x y e = rw e

-- The difference of two naturals, kept shut: it stands for an integer while an expression is rewritten.
pub diff : ℕ → ℕ → ℤ
diff a b = sub_ℕ a b

sub_diff : (a b : ℕ) → sub_ℕ a b ≡ diff a b
unfolding diff
sub_diff a b = refl

-- The two parts of a difference of naturals differ by as much as the naturals.
pub diff_val : (a b : ℕ) → up (diff a b) + b ≡ a + dn (diff a b)
unfolding diff
diff_val a b = elim (dec_le b a) [ yes h ↦ rw (le-ltb a b h) (omega arith) | no h ↦ rw (lt-ltb a b (omega arith)) (omega arith) ]

-- An integer is the difference of its two parts.
pub canon : (z : ℤ) → diff (up z) (dn z) ≡ z
canon z = same (diff (up z) (dn z)) z (omega (arith, diff_val (up z) (dn z)))

-- A sum of integers, as an equation of naturals: a linear fact for omega.
pub plus_val : (x y : ℤ) → up (x +ℤ y) + (dn x + dn y) ≡ up x + up y + dn (x +ℤ y)
plus_val (pos a) (pos b) = omega arith
plus_val (pos a) (negsuc b) = rw (sub_diff a (suc b)) (omega (arith, diff_val a (suc b)))
plus_val (negsuc a) (pos b) = rw (sub_diff b (suc a)) (omega (arith, diff_val b (suc a)))
plus_val (negsuc a) (negsuc b) = omega arith

-- The part of −x above 0 is that of x below,
pub up_neg : (x : ℤ) → up (neg_ℤ x) ≡ dn x
up_neg (pos zero) = refl
up_neg (pos (suc a)) = refl
up_neg (negsuc a) = refl

-- and the part below 0 that of x above.
pub dn_neg : (x : ℤ) → dn (neg_ℤ x) ≡ up x
dn_neg (pos zero) = refl
dn_neg (pos (suc a)) = refl
dn_neg (negsuc a) = refl

-- A difference of integers, as an equation of naturals.
pub minus_val : (x y : ℤ) → up (x -ℤ y) + (dn x + up y) ≡ up x + dn y + dn (x -ℤ y)
minus_val x y = omega (arith, plus_val x (neg_ℤ y), up_neg y, dn_neg y)

-- The part of a product above 0,
pub up_times : (x y : ℤ) → up (x *ℤ y) ≡ up x * up y + dn x * dn y
up_times (pos a) (pos b) = omega arith
up_times (pos a) (negsuc b) = up_neg (pos (a * suc b)) ∙ omega arith
up_times (negsuc a) (pos b) = up_neg (pos (suc a * b)) ∙ omega arith
up_times (negsuc a) (negsuc b) = omega arith

-- and the part below.
pub dn_times : (x y : ℤ) → dn (x *ℤ y) ≡ up x * dn y + dn x * up y
dn_times (pos a) (pos b) = omega arith
dn_times (pos a) (negsuc b) = dn_neg (pos (a * suc b)) ∙ omega arith
dn_times (negsuc a) (pos b) = dn_neg (pos (suc a * b)) ∙ omega arith
dn_times (negsuc a) (negsuc b) = omega arith

-- The parts of c times an integer, as a product with c written out has them.
pub product : (c : ℕ) (z : ℤ) → (up (pos c *ℤ z) ≡ c * up z + 0 * dn z) × (dn (pos c *ℤ z) ≡ c * dn z + 0 * up z)
product c z = (up_times (pos c) z, dn_times (pos c) z)

-- The size of an integer is the sum of its parts.
pub size_val : (x : ℤ) → nat_abs x ≡ up x + dn x
size_val (pos a) = omega arith
size_val (negsuc a) = omega arith

-- A sum of differences is a difference. (Rewriting by these laws takes an expression to one difference.)
pub plus_diff : (a b c d : ℕ) → diff a b +ℤ diff c d ≡ diff (a + c) (b + d)
plus_diff a b c d =
    same (diff a b +ℤ diff c d) (diff (a + c) (b + d))
    (omega (arith, plus_val (diff a b) (diff c d), diff_val a b, diff_val c d, diff_val (a + c) (b + d)))

-- The negative of a difference is the difference the other way round.
pub neg_diff : (a b : ℕ) → neg_ℤ (diff a b) ≡ diff b a
neg_diff a b = same (neg_ℤ (diff a b)) (diff b a) (omega (arith, up_neg (diff a b), dn_neg (diff a b), diff_val a b, diff_val b a))

-- A product of differences is a difference.
pub times_diff : (a b c d : ℕ) → diff a b *ℤ diff c d ≡ diff (a * c + b * d) (a * d + b * c)
times_diff a b c d =
    let x = diff a b in
    let y = diff c d in
    same (x *ℤ y) (diff (a * c + b * d) (a * d + b * c))
    (omega (
      arith,
      up_times x y,
      dn_times x y,
      diff_val (a * c + b * d) (a * d + b * c),
      ap (λ k. k * up y) (diff_val a b),
      ap (λ k. k * dn y) (diff_val a b),
      ap (λ k. a * k) (diff_val c d),
      ap (λ k. b * k) (diff_val c d),
    ))

-- A natural as a difference,
pub pos_diff : (a : ℕ) → pos a ≡ diff a 0
pos_diff a = same (pos a) (diff a 0) (omega (arith, diff_val a 0))

-- and an integer below 0.
pub negsuc_diff : (a : ℕ) → negsuc a ≡ diff 0 (suc a)
negsuc_diff a = same (negsuc a) (diff 0 (suc a)) (omega (arith, diff_val 0 (suc a)))

-- An equation of differences is one of naturals.
pub diff_iff : (a b c d : ℕ) → (diff a b ≡ diff c d) ↔ (a + d ≡ c + b)
diff_iff a b c d = (
  λ e. omega (arith, diff_val a b, diff_val c d, val (diff a b) (diff c d) e),
  λ h. same (diff a b) (diff c d) (omega (arith, diff_val a b, diff_val c d)),
)

-- At most, of integers: an order of naturals.
abbrev pub Le : ℤ → ℤ → Type 0
Le x y = up x + dn y ≤ up y + dn x

-- Less than, likewise.
abbrev pub Lt : ℤ → ℤ → Type 0
Lt x y = up x + dn y < up y + dn x

-- The order of two differences is the order of two sums of naturals.
pub Le-iff : (a b c d : ℕ) → Le (diff a b) (diff c d) ↔ (a + d ≤ c + b)
Le-iff a b c d = (λ h. omega (arith, diff_val a b, diff_val c d), λ h. omega (arith, diff_val a b, diff_val c d))

-- A negative of a number written out computes half way, so that the rule above does not see it.
pub neg_pos_diff : (a : ℕ) → neg_ℤ (pos a) ≡ diff 0 a
neg_pos_diff a = same (neg_ℤ (pos a)) (diff 0 a) (omega (arith, up_neg (pos a), dn_neg (pos a), diff_val 0 a))

-- The whole rewriting. A law over integers x, y is `rw (← canon x, ← canon y) (simp Z·diff (omega arith))`.
pub ruleset Z_diff = (plus_diff, neg_diff, times_diff, neg_pos_diff, pos_diff, negsuc_diff, diff_iff, Le-iff)

-- Three terms, the first two exchanged. (The library lacks this law and the four below.)
pub plus_left_comm : (x y z : ℤ) → x +ℤ (y +ℤ z) ≡ y +ℤ (x +ℤ z)
plus_left_comm x y z = rw (← canon x, ← canon y, ← canon z) (simp Z_diff (omega arith))

-- Four terms, the two in the middle exchanged.
pub plus_four : (a b c d : ℤ) → (a +ℤ b) +ℤ (c +ℤ d) ≡ (a +ℤ c) +ℤ (b +ℤ d)
plus_four a b c d = rw (← canon a, ← canon b, ← canon c, ← canon d) (simp Z_diff (omega arith))

-- A product with a sum is the sum of products.
pub times_plus : (x y z : ℤ) → x *ℤ (y +ℤ z) ≡ x *ℤ y +ℤ x *ℤ z
times_plus x y z = rw (← canon x, ← canon y, ← canon z) (simp Z_diff (omega arith))

-- The sign goes out of a product.
pub neg_times : (x y : ℤ) → neg_ℤ x *ℤ y ≡ neg_ℤ (x *ℤ y)
neg_times x y = rw (← canon x, ← canon y) (simp Z_diff (omega arith))

-- Once x is x.
pub one_times : (x : ℤ) → pos 1 *ℤ x ≡ x
one_times x = rw (← canon x) (simp Z_diff (omega arith))

-- Integers that differ by 0 are equal.
pub minus_none : (x y : ℤ) → x -ℤ y ≡ pos 0 → x ≡ y
minus_none x y e = same x y (omega (arith, minus_val x y, val (x -ℤ y) (pos 0) e))

-- Equal integers differ by 0.
pub none_minus : (x y : ℤ) → x ≡ y → x -ℤ y ≡ pos 0
none_minus x y e = same (x -ℤ y) (pos 0) (omega (arith, minus_val x y, val x y e))

-- A test of size 0.
pub size_none : (x : ℤ) → nat_abs x ≡ 0 → x ≡ pos 0
size_none x e = same x (pos 0) (omega (arith, size_val x))

-- A sum is no larger than its parts together.
pub plus_size : (x y : ℤ) → nat_abs (x +ℤ y) ≤ nat_abs x + nat_abs y
plus_size x y =
    let z = x +ℤ y in
    let v = plus_val x y in
    let l = size_val x in
    let m = size_val y in
    let n = size_val z in
    ⊎_elim (λ k. omega arith) (λ k. omega arith) (parts z)

-- Naturals that are equal as integers are equal.
pub pos_inj : {a b : ℕ} → pos a ≡ pos b → a ≡ b
pos_inj e = cc

-- Where the test of at most answers true, one integer is at most the other.
pub le_z_le : (x y : ℤ) → le_z x y ≡ true → Le x y
le_z_le (pos a) (pos b) e = omega (arith, leb-true a b e)
le_z_le (pos a) (negsuc b) e = absurd (false≢true e)
le_z_le (negsuc a) (pos b) e = omega arith
le_z_le (negsuc a) (negsuc b) e = omega (arith, leb-true b a e)

-- Where one integer is at most another, the test of at most answers true.
pub le_le_z : (x y : ℤ) → Le x y → le_z x y ≡ true
le_le_z (pos a) (pos b) h = le-leb a b (omega arith)
le_le_z (pos a) (negsuc b) h = absurd (omega arith)
le_le_z (negsuc a) (pos b) h = refl
le_le_z (negsuc a) (negsuc b) h = le-leb b a (omega arith)

-- Where the test of less than answers true, one integer is less than the other,
pub lt_z_lt : (x y : ℤ) → lt_z x y ≡ true → Lt x y
lt_z_lt (pos a) (pos b) e = omega (arith, ltb-true a b e)
lt_z_lt (pos a) (negsuc b) e = absurd (false≢true e)
lt_z_lt (negsuc a) (pos b) e = omega arith
lt_z_lt (negsuc a) (negsuc b) e = omega (arith, ltb-true b a e)

-- and where it is less, the test answers true.
pub lt_lt_z : (x y : ℤ) → Lt x y → lt_z x y ≡ true
lt_lt_z (pos a) (pos b) h = lt-ltb a b (omega arith)
lt_lt_z (pos a) (negsuc b) h = absurd (omega arith)
lt_lt_z (negsuc a) (pos b) h = refl
lt_lt_z (negsuc a) (negsuc b) h = lt-ltb b a (omega arith)

-- Of two integers one is at most the other.
pub Le-total : (x y : ℤ) → Le x y ⊎ Le y x
Le-total x y = elim (dec_le (up x + dn y) (up y + dn x)) [ yes h ↦ inl h | no h ↦ inr (omega arith) ]

-- What is not above is at most.
pub Le-unless : (x y : ℤ) → (Lt y x → ⊥) → Le x y
Le-unless x y f = elim (dec_le (up x + dn y) (up y + dn x)) [ yes h ↦ h | no h ↦ absurd (f (omega arith)) ]

-- Two integers, each at most the other, are equal.
pub Le-antisym : (x y : ℤ) → Le x y → Le y x → x ≡ y
Le-antisym x y h k = same x y (omega arith)

-- Of two integers one is the other and a natural more, or less.
pub between : (x y : ℤ) → ((t : ℕ) × (y ≡ x +ℤ diff t 0)) ⊎ ((t : ℕ) × (y ≡ x +ℤ diff 0 t))
between x y = ⊎_elim (λ h. let t = up y + dn x - (up x + dn y) in inl (t, same _ _ (omega (arith, plus_val x (diff t 0), diff_val t 0))))
    (λ h. let t = up x + dn y - (up y + dn x) in inr (t, same _ _ (omega (arith, plus_val x (diff 0 t), diff_val 0 t)))) (Le-total x y)

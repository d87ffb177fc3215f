-- Ranges: what it says that an amount is in range, that it may be more or less, and that it is nearest to the reading.
use mathlib.Core.Path.{◌≡◌, refl, ap}
use mathlib.Core.Bool.{Bool, true, false, not, ◌&&◌, ◌||◌}
use mathlib.Core.List.{List, [], ◌∷◌}
use lib.IntN.{ℤ, pos, ◌-ℤ◌, ◌*ℤ◌}
use lib.Signed.{lt_z, le_z}
use Prim.Native.Nat.{ℕ, zero, suc, ◌+◌, ◌*◌, ◌<◌}
use native.Mathlib.Nat.{lt_of_mul-lt-mul_left}
use native.Mathlib.Omega.{arith}
use borrow.Author.Tests.{not-true, not-false}
use lib.ListN.{length}
use Rattle.num_bytes.proofs.Tests.{by_cases, clash, and_left, and_right, and_both, or_left, or_right, or_cases, or_none_left, or_none_right, picked}
use Rattle.plant_def.specs.declared.Stream.{Stream}
use Rattle.plant_def.specs.Plants.{Plant, limited}
use Rattle.flow_def.specs.Flows.{stream_at, amount_at, balanced, in_range, in_ranges, allowed_over, nearest}
use Rattle.flow_def.specs.Certificate.{rises, falls}
use Rattle.num_bytes.proofs.Integers.{up, dn, Le, Lt, le_z_le, le_le_z, lt_z_lt, lt_lt_z, Le-unless, Le-antisym, minus_val, product, one_times, val}
use Rattle.flow_def.proofs.Nets.{count_of, stream_of, balanced_size}
use Rattle.flow_def.proofs.Steps.{Free}

-- A test that is asked only of a stream with a range.
pub asked : (b t : Bool) → not b || t ≡ true → b ≡ true → t ≡ true
asked b t e h = or_cases (not b) t e (λ z. clash b h (not-true b z)) (λ z. z)

-- Where b implies t, "not b, or t" is answered with true.
pub answered : (b t : Bool) → (b ≡ true → t ≡ true) → not b || t ≡ true
answered b t f = by_cases b (λ h. or_right (not b) t (f h)) (λ h. or_left (not b) t (ap not h))

not_below : (x y : ℤ) → lt_z x y ≡ false → Le y x
not_below x y e = Le-unless y x (λ l. clash (lt_z x y) (lt_lt_z x y l) e)

-- In range: from the low end to the high end.
pub range_says : (d : ℕ) (s : Stream) (x : ℤ) → in_range d s x ≡ true → limited s ≡ true → Le (pos d *ℤ s.low) x × Le x (pos d *ℤ s.high)
range_says d s x e h =
    let t = asked (limited s) _ e h in
    (le_z_le (pos d *ℤ s.low) x (and_left _ (le_z x (pos d *ℤ s.high)) t), le_z_le x (pos d *ℤ s.high) (and_right (le_z (pos d *ℤ s.low) x) _ t))

-- Between the ends of its range, where it has one, an amount is in range.
pub range_holds : (d : ℕ) (s : Stream) (x : ℤ) → (limited s ≡ true → Le (pos d *ℤ s.low) x × Le x (pos d *ℤ s.high)) → in_range d s x ≡ true
range_holds d s x f = answered (limited s) _ (λ h. and_both _ _ (le_le_z (pos d *ℤ s.low) x (f h).0) (le_le_z x (pos d *ℤ s.high) (f h).1))

-- A whole amount in range lies between the ends of the range,
pub whole_says : (s : Stream) (x : ℤ) → in_range 1 s x ≡ true → limited s ≡ true → Le s.low x × Le x s.high
whole_says s x e h =
    let t = range_says 1 s x e h in
    (omega (arith, t.0, val _ _ (one_times s.low)), omega (arith, t.1, val _ _ (one_times s.high)))

-- and one that lies between them is in range.
pub whole_holds : (s : Stream) (x : ℤ) → (limited s ≡ true → Le s.low x × Le x s.high) → in_range 1 s x ≡ true
whole_holds s x f = range_holds 1 s x (λ h.
    (omega (arith, (f h).0, val _ _ (one_times s.low)), omega (arith, (f h).1, val _ _ (one_times s.high))))

-- Amounts that are in range together are in range one by one.
pub ranges_at : (d : ℕ) (ss : List Stream) (xs : List ℤ) → length xs ≡ length ss → in_ranges d ss xs ≡ true
    → (k : ℕ) → k < length ss → in_range d (stream_at ss k) (amount_at xs k) ≡ true
ranges_at d [] xs n e k l = absurd (omega arith)
ranges_at d (s ∷ ss) [] n e k l = absurd (omega arith)
ranges_at d (s ∷ ss) (x ∷ xs) n e zero l = and_left (in_range d s x) (in_ranges d ss xs) e
ranges_at d (s ∷ ss) (x ∷ xs) n e (suc k) l = ranges_at d ss xs (omega arith) (and_right (in_range d s x) (in_ranges d ss xs) e) k (omega arith)

-- Amounts that are in range one by one are in range together.
pub ranges_all : (d : ℕ) (ss : List Stream) (xs : List ℤ) → length xs ≡ length ss
    → ((k : ℕ) → k < length ss → in_range d (stream_at ss k) (amount_at xs k) ≡ true) → in_ranges d ss xs ≡ true
ranges_all d [] xs n h = refl
ranges_all d (s ∷ ss) [] n h = refl
ranges_all d (s ∷ ss) (x ∷ xs) n h =
    and_both (in_range d s x) _ (h 0 (omega arith)) (ranges_all d ss xs (omega arith) (λ k l. h (suc k) (omega arith)))

-- A flow in range balances, and each of its amounts is in range.
module _ (d : ℕ) (p : Plant) (xs : List ℤ) where
  -- It balances,
  pub balanced_of : allowed_over d p xs ≡ true → balanced p xs ≡ true
  balanced_of e = and_left (balanced p xs) _ e

  -- and each amount is in range;
  pub range_of : allowed_over d p xs ≡ true → (k : ℕ) → k < count_of p → in_range d (stream_of p k) (amount_at xs k) ≡ true
  range_of e = ranges_at d p.streams xs (balanced_size p xs (balanced_of e)) (and_right (balanced p xs) _ e)

  -- and the other way.
  pub allowed_of : balanced p xs ≡ true → ((k : ℕ) → k < count_of p → in_range d (stream_of p k) (amount_at xs k) ≡ true) → allowed_over d p xs ≡ true
  allowed_of b h = and_both (balanced p xs) _ b (ranges_all d p.streams xs (balanced_size p xs b) h)

-- A stream without a meter has no range.
pub unmetered_moves : (s : Stream) (x : ℤ) → s.metered ≡ false → (falls s x ≡ true) × (rises s x ≡ true)
unmetered_moves s x m = (rw m, rw m)

-- Where an amount over D, in range, is above or below x, there is room for more, or less, than x.
module _ (D : ℕ) (s : Stream) (x y : ℤ) (e : in_range D s y ≡ true) where
  higher : Lt (pos D *ℤ x) y → rises s x ≡ true
  higher h = answered (limited s) _ (λ q. lt_lt_z x s.high
      (lt_of_mul-lt-mul_left D (omega (arith, (range_says D s y e q).1, product D x, product D s.high))))

  lower : Lt y (pos D *ℤ x) → falls s x ≡ true
  lower h = answered (limited s) _ (λ q. lt_lt_z s.low x
      (lt_of_mul-lt-mul_left D (omega (arith, (range_says D s y e q).0, product D x, product D s.low))))

  -- The same of their deviations from the reading.
  pub free_over : Free (falls s x) (rises s x) (pos D *ℤ (x -ℤ s.reading)) (y -ℤ pos D *ℤ s.reading)
  free_over = record {
    more = λ h. higher (omega (arith, minus_val y (pos D *ℤ s.reading), product D (x -ℤ s.reading), scaled, product D x, product D s.reading));
    less = λ h. lower (omega (arith, minus_val y (pos D *ℤ s.reading), product D (x -ℤ s.reading), scaled, product D x, product D s.reading));
  }
    where
      scaled : D * (up (x -ℤ s.reading) + (dn x + up s.reading)) ≡ D * (up x + dn s.reading + dn (x -ℤ s.reading))
      scaled = ap (λ k. D * k) (minus_val x s.reading)

-- Where an amount in range is above x, x may rise; where it is below x, x may fall.
pub free_whole : (s : Stream) (x y : ℤ) → in_range 1 s y ≡ true → Free (falls s x) (rises s x) (x -ℤ s.reading) (y -ℤ s.reading)
free_whole s x y e =
    rw (one_times (x -ℤ s.reading), one_times s.reading) at (free_over 1 s x y e)

-- At an end of the range.
module _ (s : Stream) (x : ℤ) (e : in_range 1 s x ≡ true) where
  -- An amount in range that cannot rise is at the upper end,
  pub at_high : rises s x ≡ false → (limited s ≡ true) × (x ≡ s.high)
  at_high r =
      let q = not-false (limited s) (or_none_left (not (limited s)) _ r) in
      (q, Le-antisym x s.high (whole_says s x e q).1 (not_below x s.high (or_none_right (not (limited s)) _ r)))

  -- and one that cannot fall at the lower end.
  pub at_low : falls s x ≡ false → (limited s ≡ true) × (x ≡ s.low)
  at_low r =
      let q = not-false (limited s) (or_none_left (not (limited s)) _ r) in
      (q, Le-antisym x s.low (not_below s.low x (or_none_right (not (limited s)) _ r)) (whole_says s x e q).0)

  -- The nearest value in range to the reading: one that is at least the reading where it may be more, and at most where it may be less.
  pub nearest_is : (rises s x ≡ true → Le s.reading x) → (falls s x ≡ true → Le x s.reading) → x ≡ nearest s
  nearest_is f g =
      picked (λ (y : ℤ). x ≡ y) (limited s && lt_z s.reading s.low) s.low _
      (λ t. low_end (and_left (limited s) _ t) (lt_z_lt s.reading s.low (and_right (limited s) _ t)))
      (λ t. picked (λ (y : ℤ). x ≡ y) (limited s && lt_z s.high s.reading) s.high s.reading
      (λ u. high_end (and_left (limited s) _ u) (lt_z_lt s.high s.reading (and_right (limited s) _ u)))
      (λ u. Le-antisym x s.reading (at_most (λ q. not_below s.reading s.low (rw q at t))) (at_least (λ q. not_below s.high s.reading (rw q at u)))))
    where
      low_end : limited s ≡ true → Lt s.reading s.low → x ≡ s.low
      low_end q h = by_cases (falls s x) (λ t. absurd (omega (arith, g t, (whole_says s x e q).0))) (λ t. (at_low t).1)

      high_end : limited s ≡ true → Lt s.high s.reading → x ≡ s.high
      high_end q h = by_cases (rises s x) (λ t. absurd (omega (arith, f t, (whole_says s x e q).1))) (λ t. (at_high t).1)

      at_most : (limited s ≡ true → Le s.low s.reading) → Le x s.reading
      at_most h = by_cases (falls s x) g (λ t. omega (arith, h (at_low t).0, val x s.low (at_low t).1))

      at_least : (limited s ≡ true → Le s.reading s.high) → Le s.reading x
      at_least h = by_cases (rises s x) f (λ t. omega (arith, h (at_high t).0, val x s.high (at_high t).1))

-- It is in range.
pub nearest_in : (s : Stream) → (limited s ≡ true → le_z s.low s.high ≡ true) → in_range 1 s (nearest s) ≡ true
nearest_in s o =
    picked (λ (y : ℤ). in_range 1 s y ≡ true) (limited s && lt_z s.reading s.low) s.low _
    (λ t. whole_holds s s.low (λ q. (omega arith, ordered q)))
    (λ t. picked (λ (y : ℤ). in_range 1 s y ≡ true) (limited s && lt_z s.high s.reading) s.high s.reading
    (λ u. whole_holds s s.high (λ q. (ordered q, omega arith)))
    (λ u. whole_holds s s.reading (λ q. (not_below s.reading s.low (rw q at t), not_below s.high s.reading (rw q at u)))))
  where
    ordered : limited s ≡ true → Le s.low s.high
    ordered q = le_z_le s.low s.high (o q)

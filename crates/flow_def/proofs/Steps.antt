-- The step condition of one stream: what potentials at its ends say of its amount.
use mathlib.Core.Path.{◌≡◌, refl, ◌∙◌, ap}
use mathlib.Core.Bool.{Bool, true}
use mathlib.Core.Logic.{◌⊎◌, inl, inr, ⊎_elim}
use lib.IntN.{ℤ, pos, ◌+ℤ◌, ◌-ℤ◌, ◌*ℤ◌}
use Prim.Native.Nat.{ℕ, zero, suc, ◌+◌, ◌*◌, ◌≤◌}
use native.Mathlib.Nat.{mul-le-mul_left, mul-le-mul_right}
use native.Mathlib.Omega.{arith}
use native.Mathlib.Decide.{dec_le}
use Rattle.flow_def.specs.Flows.{square}
use Rattle.flow_def.specs.Certificate.{lower, upper}
use Rattle.num_bytes.proofs.Integers.{up, dn, diff, Le, Lt, canon, Z_diff, diff_val, diff_iff, plus_val, same, val, between}
use Rattle.flow_def.proofs.Squares.{square_diff}

-- The condition, at step Δ: the potential difference c of a stream of weight w whose amount is d above its reading is within bounds,
-- the lower where the amount may be less (a), the upper where it may be more (b).
pub record Step (Δ w : ℕ) (d c : ℤ) (a b : Bool) : Type 0 where
  pub low : a ≡ true → Le (lower Δ w d) c
  pub high : b ≡ true → Le c (upper Δ w d)

-- An amount e in range says whether d may be more or less: it may be what leads to e.
pub record Free (a b : Bool) (d e : ℤ) : Type 0 where
  pub more : Lt d e → b ≡ true
  pub less : Lt e d → a ≡ true

risen : (d e : ℤ) (t : ℕ) → e ≡ d +ℤ diff t 0 → 1 ≤ t → Lt d e
risen d e t q l = omega (arith, val e (d +ℤ diff t 0) q, plus_val d (diff t 0), diff_val t 0)

fallen : (d e : ℤ) (t : ℕ) → e ≡ d +ℤ diff 0 t → 1 ≤ t → Lt e d
fallen d e t q l = omega (arith, val e (d +ℤ diff 0 t) q, plus_val d (diff 0 t), diff_val 0 t)

-- The bounds over naturals.
low_parts : (Δ w : ℕ) (d c : ℤ) → Le (lower Δ w d) c → dn c + w * (2 * up d) ≤ w * (2 * dn d + Δ) + up c
low_parts Δ w d c h = omega (arith, simp Z_diff at (rw (← canon d, ← canon c) at h))

high_parts : (Δ w : ℕ) (d c : ℤ) → Le c (upper Δ w d) → up c + w * (2 * dn d) ≤ w * (2 * up d + Δ) + dn c
high_parts Δ w d c h = omega (arith, simp Z_diff at (rw (← canon d, ← canon c) at h))

-- Squares of differences.
diff_same : (a b c d : ℕ) → a + d ≡ c + b → diff a b ≡ diff c d
diff_same a b c d = (diff_iff a b c d).1

square_swap : (w a b : ℕ) → w * square (diff a b) ≡ w * square (diff b a)
square_swap w a b = ap (λ k. w * k) (omega (arith, square_diff a b, square_diff b a))

square_scaled : (n a b : ℕ) → square (diff (n * a) (n * b)) ≡ n * n * square (diff a b)
square_scaled n a b = omega (arith, square_diff (n * a) (n * b), ap (λ k. n * n * k) (square_diff a b))

le_square : (t : ℕ) → t ≤ t * t
le_square zero = omega arith
le_square (suc t) = omega arith

-- Over naturals: d is A less B, the potential difference p less q, another deviation C less D is t above d. The case below d is
-- this one with each pair turned round.
rise : (w A B C D p q t : ℕ) → (1 ≤ t → p + w * (2 * B) ≤ w * (2 * A + 1) + q) → C + B ≡ A + t + D
    → w * square (diff A B) + p * t ≤ w * square (diff C D) + q * t
rise w A B C D p q zero h e = rw (diff_same C D (A + 0) B e) (omega (arith, ap (λ k. w * k) (square_diff A B), ap (λ k. w * k) (square_diff (A + 0) B)))
rise w A B C D p q (suc t) h e =
    rw (diff_same C D (A + suc t) B e)
    (omega (
      arith,
      ap (λ k. w * k) (square_diff A B),
      ap (λ k. w * k) (square_diff (A + suc t) B),
      mul-le-mul_right (suc t) (h (omega arith)),
      mul-le-mul_left w (le_square (suc t)),
    ))

-- Whole numbers: at a deviation e in place of d the cost rises by at least the potential difference times the change.
pub whole : (w : ℕ) (d e c : ℤ) (a b : Bool) → Step 1 w d c a b → Free a b d e → Le (pos (w * square d) +ℤ c *ℤ e) (pos (w * square e) +ℤ c *ℤ d)
whole w d e c a b s g = ⊎_elim
    (λ h. rw (h.1, ← canon d, ← canon c) (simp Z_diff
    (omega (
      arith,
      rise w (up d) (dn d) (up d + h.0) (dn d + 0) (up c) (dn c) h.0
          (λ l. high_parts 1 w d c (s.high (g.more (risen d e h.0 h.1 l)))) (omega arith),
    ))))
    (λ h. rw (h.1, ← canon d, ← canon c) (simp Z_diff (omega (
      arith,
      rise w (dn d) (up d) (dn d + h.0) (up d + 0) (dn c) (up c) h.0
          (λ l. low_parts 1 w d c (s.low (g.less (fallen d e h.0 h.1 l)))) (omega arith),
      square_swap w (up d) (dn d),
      square_swap w (up d + 0) (dn d + h.0),
    ))))
    (between d e)

-- Fractions over D: the cost undercuts that by at most a quarter of the weight.
four_products : (D t : ℕ) → 4 * (D * t) ≤ 4 * (t * t) + D * D
four_products D t = omega (arith, square_diff (2 * t) D)

rise_fraction : (D w A B C E p q t : ℕ) → (1 ≤ t → p + w * (2 * B) ≤ w * (2 * A + 1) + q) → C + D * B ≡ D * A + t + E
    → 4 * (D * D) * (w * square (diff A B)) + 4 * D * (p * t) ≤ 4 * (w * square (diff C E)) + D * D * w + 4 * D * (q * t)
rise_fraction D w A B C E p q zero h e = rw (diff_same C E (D * A + 0) (D * B) e)
    (omega (arith, ap (λ k. w * k) (square_diff (D * A) (D * B)), ap (λ k. w * k) (square_diff (D * A + 0) (D * B)), ap (λ k. w * k) (square_scaled D A B)))
rise_fraction D w A B C E p q (suc t) h e =
    rw (diff_same C E (D * A + suc t) (D * B) e)
    (omega (arith, middle (D * A) (D * B) (D * p) (D * q) (omega (arith, mul-le-mul_left D (h (omega arith)))), ap (λ k. w * k) (square_scaled D A B)))
  where
    middle : (P Q p q : ℕ) → p + w * (2 * Q) ≤ w * (2 * P + D) + q
        → 4 * (w * square (diff P Q)) + 4 * (p * suc t) ≤ 4 * (w * square (diff (P + suc t) Q)) + D * D * w + 4 * (q * suc t)
    middle P Q p q h =
        omega (
          arith,
          ap (λ k. w * k) (square_diff P Q),
          ap (λ k. w * k) (square_diff (P + suc t) Q),
          mul-le-mul_left (suc t) h,
          mul-le-mul_left w (four_products D (suc t)),
        )

-- A stream's cost at a whole amount is undercut in D-ths by at most a quarter of its weight, the potentials set against it.
pub fraction : (D w : ℕ) (d e c : ℤ) (a b : Bool) → Step 1 w d c a b → Free a b (pos D *ℤ d) e
    → Le (pos (4 * (D * D) * (w * square d)) +ℤ pos (4 * D) *ℤ (c *ℤ e)) (pos (4 * (w * square e) + D * D * w) +ℤ pos (4 * (D * D)) *ℤ (c *ℤ d))
fraction D w d e c a b s g = ⊎_elim
    (λ h. rw (h.1, ← canon d, ← canon c) (simp Z_diff
    (omega (
      arith,
      rise_fraction D w (up d) (dn d) (D * up d + 0 * dn d + h.0) (D * dn d + 0 * up d + 0) (up c) (dn c) h.0
          (λ l. high_parts 1 w d c (s.high (g.more (risen (pos D *ℤ d) e h.0 h.1 l)))) (omega arith),
    ))))
    (λ h. rw (h.1, ← canon d, ← canon c) (simp Z_diff
    (omega (
      arith,
      fall (up d) (dn d) (D * up d + 0 * dn d + 0) (D * dn d + 0 * up d + h.0) (up c) (dn c) h.0
          (λ l. low_parts 1 w d c (s.low (g.less (fallen (pos D *ℤ d) e h.0 h.1 l)))) (omega arith),
    ))))
    (between (pos D *ℤ d) e)
  where
    fall : (A B C E p q t : ℕ) → (1 ≤ t → q + w * (2 * A) ≤ w * (2 * B + 1) + p) → E + D * A ≡ D * B + t + C
        → 4 * (D * D) * (w * square (diff A B)) + 4 * D * (q * t) ≤ 4 * (w * square (diff C E)) + D * D * w + 4 * D * (p * t)
    fall A B C E p q t h k = rw (square_swap w A B, square_swap w C E) (rise_fraction D w B A E C q p t h k)

-- Equal potentials at both ends: the amount is at least the reading where it may be more, and at most that where it may be less.
flat_parts : (w A B : ℕ) → 1 ≤ w → w * (2 * A) ≤ w * (2 * B + 1) → A ≤ B
flat_parts w A B l h = elim (dec_le A B) [ yes k ↦ k | no k ↦ absurd (clash (omega arith)) ]
  where
    clash : 2 * B + 2 ≤ 2 * A → ⊥
    clash k = omega (arith, mul-le-mul_left w k)

module _ (w : ℕ) (d c : ℤ) (a b : Bool) (l : 1 ≤ w) (z : c ≡ pos 0) (s : Step 1 w d c a b) where
  -- Where the amount may rise, it is not below the reading,
  pub flat_high : b ≡ true → dn d ≤ up d
  flat_high t = flat_parts w (dn d) (up d) l (omega (arith, val c (pos 0) z, high_parts 1 w d c (s.high t)))

  -- and where it may fall, not above.
  pub flat_low : a ≡ true → up d ≤ dn d
  flat_low t = flat_parts w (up d) (dn d) l (omega (arith, val c (pos 0) z, low_parts 1 w d c (s.low t)))

-- So no deviation in range over D costs less.
flat_rise : (D w A B C E t : ℕ) → (1 ≤ t → B ≤ A) → C + D * B ≡ D * A + t + E → 4 * (D * D) * (w * square (diff A B)) ≤ 4 * (w * square (diff C E))
flat_rise D w A B C E zero h e = rw (diff_same C E (D * A + 0) (D * B) e)
    (omega (arith, ap (λ k. w * k) (square_diff (D * A) (D * B)), ap (λ k. w * k) (square_diff (D * A + 0) (D * B)), ap (λ k. w * k) (square_scaled D A B)))
flat_rise D w A B C E (suc t) h e = rw (diff_same C E (D * A + suc t) (D * B) e)
    (omega (
      arith,
      ap (λ k. w * k) (square_diff (D * A) (D * B)),
      ap (λ k. w * k) (square_diff (D * A + suc t) (D * B)),
      ap (λ k. w * k) (square_scaled D A B),
      mul-le-mul_left w (mul-le-mul_left (suc t) (mul-le-mul_left D (h (omega arith)))),
    ))

-- Between places of one potential, a stream of weight at least 1 is not undercut at all.
pub flat : (D w : ℕ) (d e c : ℤ) (a b : Bool) → 1 ≤ w → c ≡ pos 0 → Step 1 w d c a b → Free a b (pos D *ℤ d) e
    → 4 * (D * D) * (w * square d) ≤ 4 * (w * square e)
flat D w d e c a b l z s g = ⊎_elim
    (λ h. rw (h.1, ← canon d) (simp Z_diff
    (omega (
      arith,
      flat_rise D w (up d) (dn d) (D * up d + 0 * dn d + h.0) (D * dn d + 0 * up d + 0) h.0
          (λ k. flat_high w d c a b l z s (g.more (risen (pos D *ℤ d) e h.0 h.1 k))) (omega arith),
    ))))
    (λ h. rw (h.1, ← canon d) (simp Z_diff
    (omega (
      arith,
      flat_fall (up d) (dn d) (D * up d + 0 * dn d + 0) (D * dn d + 0 * up d + h.0) h.0
          (λ k. flat_low w d c a b l z s (g.less (fallen (pos D *ℤ d) e h.0 h.1 k))) (omega arith),
    ))))
    (between (pos D *ℤ d) e)
  where
    flat_fall : (A B C E t : ℕ) → (1 ≤ t → A ≤ B) → E + D * A ≡ D * B + t + C → 4 * (D * D) * (w * square (diff A B)) ≤ 4 * (w * square (diff C E))
    flat_fall A B C E t h k = rw (square_swap w A B, square_swap w C E) (flat_rise D w B A E C t h k)

-- No weight: equal potentials at both ends, where the amount may be less and more.
pub free : (Δ w : ℕ) (d c : ℤ) (a b : Bool) → w ≡ 0 → (a ≡ true) × (b ≡ true) → Step Δ w d c a b → c ≡ pos 0
free Δ w d c a b z m s = same c (pos 0) (omega (arith, rw z at (low_parts Δ w d c (s.low m.0)), rw z at (high_parts Δ w d c (s.high m.1))))

-- A deviation of no more cost is d, or one more or one less where it may be that and the bound is tight.
pub data Tied (w : ℕ) (d e c : ℤ) (a b : Bool) : Type 0 where
  level : e ≡ d → Tied w d e c a b
  above : e ≡ d +ℤ pos 1 → b ≡ true → Le (upper 1 w d) c → Tied w d e c a b
  below : e ≡ d -ℤ pos 1 → a ≡ true → Le c (lower 1 w d) → Tied w d e c a b

rise_tied : (w A B C D p q t : ℕ) → 1 ≤ w → (1 ≤ t → p + w * (2 * B) ≤ w * (2 * A + 1) + q) → C + B ≡ A + t + D
    → w * square (diff C D) + q * t ≤ w * square (diff A B) + p * t → (t ≡ 0) ⊎ ((t ≡ 1) × (w * (2 * A + 1) + q ≤ p + w * (2 * B)))
rise_tied w A B C D p q zero l h e k = inl refl
rise_tied w A B C D p q (suc zero) l h e k =
    inr (refl, omega (arith, rw (diff_same C D (A + 1) B e) at k, ap (λ k. w * k) (square_diff A B), ap (λ k. w * k) (square_diff (A + 1) B)))
rise_tied w A B C D p q (suc (suc t)) l h e k =
    absurd (omega (
      arith,
      rw (diff_same C D (A + suc (suc t)) B e) at k,
      ap (λ k. w * k) (square_diff A B),
      ap (λ k. w * k) (square_diff (A + suc (suc t)) B),
      mul-le-mul_right (suc (suc t)) (h (omega arith)),
    ))

-- Where another amount in range costs no more, against the potentials, the two are tied.
pub tied : (w : ℕ) (d e c : ℤ) (a b : Bool) → 1 ≤ w → Step 1 w d c a b → Free a b d e
    → Le (pos (w * square e) +ℤ c *ℤ d) (pos (w * square d) +ℤ c *ℤ e) → Tied w d e c a b
tied w d e c a b l s g k = ⊎_elim
    (λ h. up_case h.0 h.1 (rise_tied w (up d) (dn d) (up d + h.0) (dn d + 0) (up c) (dn c) h.0 l
    (λ o. high_parts 1 w d c (s.high (g.more (risen d e h.0 h.1 o)))) (omega arith)
    (omega (arith, simp Z_diff at (rw (h.1, ← canon d, ← canon c) at k)))))
    (λ h. down_case h.0 h.1 (rise_tied w (dn d) (up d) (dn d + h.0) (up d + 0) (dn c) (up c) h.0 l
    (λ o. low_parts 1 w d c (s.low (g.less (fallen d e h.0 h.1 o)))) (omega arith)
    (omega (arith, simp Z_diff at (rw (h.1, ← canon d, ← canon c) at k), square_swap w (up d) (dn d), square_swap w (up d + 0) (dn d + h.0)))))
    (between d e)
  where
    up_case : (t : ℕ) → e ≡ d +ℤ diff t 0 → (t ≡ 0) ⊎ ((t ≡ 1) × (w * (2 * up d + 1) + dn c ≤ up c + w * (2 * dn d))) → Tied w d e c a b
    up_case t q (inl z) = level (q ∙ rw (← canon d) (simp Z_diff (omega arith)))
    up_case t q (inr z) =
        above (q ∙ rw (← canon d) (simp Z_diff (omega arith))) (g.more (risen d e t q (omega arith)))
        (rw (← canon d, ← canon c) (simp Z_diff (omega arith)))

    down_case : (t : ℕ) → e ≡ d +ℤ diff 0 t → (t ≡ 0) ⊎ ((t ≡ 1) × (w * (2 * dn d + 1) + up c ≤ dn c + w * (2 * up d))) → Tied w d e c a b
    down_case t q (inl z) = level (q ∙ rw (← canon d) (simp Z_diff (omega arith)))
    down_case t q (inr z) =
        below (q ∙ rw (← canon d) (simp Z_diff (omega arith))) (g.less (fallen d e t q (omega arith)))
        (rw (← canon d, ← canon c) (simp Z_diff (omega arith)))

-- Codes that are the same at the distance 0: a walk within the limit 0 comes to the same by either, whatever the others are.
use mathlib.Core.Path.{◌≡◌, refl, sym, ◌∙◌, ap}
use mathlib.Core.Bool.{Bool, true, false}
use mathlib.Core.List.{List}
use mathlib.Core.Logic.{◌⊎◌, inl, inr, ⊎_elim}
use Prim.Native.Nat.{ℕ, zero, suc, ◌+◌, ◌-◌, ◌/◌, ◌%◌, ◌≤◌, ◌<◌}
use native.Mathlib.Omega.{arith}
use native.Mathlib.Decide.{ℕ_discrete, dec_le}
use borrow.Author.Tests.{ltb-true, ltb-false}
use lib.Dec.{eqb, ltb}
use lib.ListN.{length, get_or, set, length-set, get_or-eq_default}
use lib.Seq.{get_or-set_same, get_or-set_other}
use Rattle.num_bytes.specs.Choice.{pick}
use Rattle.num_bytes.proofs.Tests.{by_cases, picked}
use Rattle.num_bytes.proofs.Filled.{get_d_any}
use Rattle.plant_def.specs.Limits.{places}
use Rattle.solve_def.specs.declared.Tree.{Tree}
use Rattle.solve_def.specs.declared.Walked.{Walked}
use Rattle.solve_def.specs.Sizes.{far, numbering, net_shift}
use Rattle.solve_def.specs.Search.{added_to}
use Rattle.solve_def.specs.Near.{code_of, lessened, relaxed_along, relaxed_at, relaxed_to, nearest_to, walked_by, walked}
use Rattle.solve_def.proofs.Nearing.{nearest_is}
use Rattle.solve_def.proofs.Steps.{walk_none, walk_far, walk_hit, walk_more, walk_end}

-- Two codes: the same, or neither at the distance 0.
abbrev pub Like : ℕ → ℕ → Type 0
Like x y = (x ≡ y) ⊎ ((numbering ≤ x) × (numbering ≤ y))

-- The codes of all places.
pub record Alike (xs ys : List ℕ) : Type 0 where
  pub long : length xs ≡ places
  pub long_too : length ys ≡ places
  pub each : (v : ℕ) → v < places → Like (get_or xs v 0) (get_or ys v 0)

module _ {xs ys : List ℕ} (h : Alike xs ys) where
  -- Past the places too.
  any : (v : ℕ) → Like (get_or xs v 0) (get_or ys v 0)
  any v = elim (dec_le (suc v) places) [
    | yes l ↦ h.each v l
    | no l ↦ inl (get_or-eq_default xs 0 {n = v} (omega (arith, h.long)) ∙ sym (get_or-eq_default ys 0 {n = v} (omega (arith, h.long_too))))
  ]

  -- One code of each is another.
  alike_set : (v c d : ℕ) → Like c d → Alike (set xs v c) (set ys v d)
  alike_set v c d o = record {
    long = length-set xs v c ∙ h.long;
    long_too = length-set ys v d ∙ h.long_too;
    each = λ u b. elim (ℕ_discrete u v) [
      | yes q ↦ rw (q, get_or-set_same xs v c 0 (rw h.long (rw q at b)), get_or-set_same ys v d 0 (rw h.long_too (rw q at b))) o
      | no q ↦ rw (get_or-set_other xs v u c 0 q, get_or-set_other ys v u d 0 q) (h.each u b)
    ];
  }

  -- One code of the first alone, of the second alone.
  alike_first : (v c : ℕ) → Like c (get_or ys v 0) → Alike (set xs v c) ys
  alike_first v c o = record {
    long = length-set xs v c ∙ h.long;
    long_too = h.long_too;
    each = λ u b. elim (ℕ_discrete u v) [
      | yes q ↦ rw (q, get_or-set_same xs v c 0 (rw h.long (rw q at b))) o
      | no q ↦ rw (get_or-set_other xs v u c 0 q) (h.each u b)
    ];
  }

  alike_second : (v d : ℕ) → Like (get_or xs v 0) d → Alike xs (set ys v d)
  alike_second v d o = record {
    long = h.long;
    long_too = length-set ys v d ∙ h.long_too;
    each = λ u b. elim (ℕ_discrete u v) [
      | yes q ↦ rw (q, get_or-set_same ys v d 0 (rw h.long_too (rw q at b))) o
      | no q ↦ rw (get_or-set_other ys v u d 0 q) (h.each u b)
    ];
  }

  -- A code is offered to both.
  alike_less : (v c : ℕ) → Alike (lessened xs v c) (lessened ys v c)
  alike_less v c = picked (λ (zs : List ℕ). Alike zs (lessened ys v c)) (ltb c (get_or xs v 0)) (set xs v c) xs
      (λ s. picked (λ (zs : List ℕ). Alike (set xs v c) zs) (ltb c (get_or ys v 0)) (set ys v c) ys
      (λ t. alike_set v c c (inl refl))
      (λ t. alike_first v c (first (ltb-true c (get_or xs v 0) s) (ltb-false c (get_or ys v 0) t) (any v))))
      (λ s. picked (λ (zs : List ℕ). Alike xs zs) (ltb c (get_or ys v 0)) (set ys v c) ys
      (λ t. alike_second v c (second (ltb-false c (get_or xs v 0) s) (ltb-true c (get_or ys v 0) t) (any v)))
      (λ t. h))
    where
      first : {x y : ℕ} → c < x → y ≤ c → Like x y → Like c y
      first a b (inl e) = absurd (omega arith)
      first a b (inr o) = inr (omega (arith, o.1), o.1)

      second : {x y : ℕ} → x ≤ c → c < y → Like x y → Like x c
      second a b (inl e) = absurd (omega arith)
      second a b (inr o) = inr (o.0, omega (arith, o.0))

module _ (fs ts gs bs : List ℕ) (ls : List Bool) (k e : ℕ) where
  alike_along : {xs ys : List ℕ} → Alike xs ys → (v g i : ℕ) → Alike (relaxed_along ls k v g i xs) (relaxed_along ls k v g i ys)
  unfolding relaxed_along
  alike_along h v g i = by_cases (get_or ls v false) (λ t. rw t h) (λ t. rw t (alike_less h v (code_of (k + g) i)))

  alike_at : {xs ys : List ℕ} → Alike xs ys → (i : ℕ) → Alike (relaxed_at fs ts gs bs ls k e i xs) (relaxed_at fs ts gs bs ls k e i ys)
  unfolding relaxed_at
  alike_at h i = by_cases (eqb (get_or fs i 0) e)
      (λ t. rw t (alike_along h (get_or ts i 0) (get_or gs i 0) i))
      (λ t. rw t (by_cases (eqb (get_or ts i 0) e) (λ s. rw s (alike_along h (get_or fs i 0) (get_or bs i 0) i)) (λ s. rw s h)))

  alike_to : {xs ys : List ℕ} (n : ℕ) → Alike xs ys → Alike (relaxed_to fs ts gs bs ls k e n xs) (relaxed_to fs ts gs bs ls k e n ys)
  unfolding relaxed_to
  alike_to {xs = xs} {ys = ys} zero h = h
  alike_to {xs = xs} {ys = ys} (suc n) h =
      alike_to {xs = relaxed_at fs ts gs bs ls k e n xs} {ys = relaxed_at fs ts gs bs ls k e n ys} n (alike_at h n)

-- The nearest of either: one place at the distance 0, or none is at that distance.
abbrev Both : List ℕ → List ℕ → ℕ → ℕ → Type 0
Both xs ys r s = ((r ≡ s) × (get_or xs r far ≡ get_or ys r far) × (get_or xs r far < numbering)) ⊎ ((numbering ≤ get_or xs r far) × (numbering ≤ get_or ys s far))

past : (xs : List ℕ) → length xs ≡ places → get_or xs places far ≡ far
past xs l = get_or-eq_default xs far {n = places} (omega (arith, l))

alike_nearest : {xs ys : List ℕ} → Alike xs ys → (n : ℕ) → n ≤ places → Both xs ys (nearest_to xs n) (nearest_to ys n)
unfolding nearest_to
alike_nearest {xs} {ys} h zero l = inr (omega (arith, past xs h.long), omega (arith, past ys h.long_too))
alike_nearest {xs} {ys} h (suc n) l = go (nearest_to xs n) (nearest_to ys n) (alike_nearest h n (omega arith))
  where
    at : Like (get_or xs n far) (get_or ys n far)
    at = rw (get_d_any xs n far 0 (omega (arith, h.long)), get_d_any ys n far 0 (omega (arith, h.long_too))) (h.each n (omega arith))

    here : Both xs ys n n
    here = ⊎_elim
        (λ (e : get_or xs n far ≡ get_or ys n far). elim (dec_le numbering (get_or xs n far)) [ yes a ↦ inr (a, omega arith) | no a ↦ inl (refl, e, omega arith) ])
        (λ o. inr o)
        at

    first : (r s : ℕ) → Both xs ys r s → get_or xs n far < get_or xs r far → get_or ys s far ≤ get_or ys n far → Like (get_or xs n far) (get_or ys n far) → Both xs ys n s
    first r s (inl o) a b (inl e) = absurd (omega (arith, o.1, ap (λ (z : ℕ). get_or ys z far) o.0))
    first r s (inl o) a b (inr e) = absurd (omega (arith, o.2, e.0))
    first r s (inr o) a b (inl e) = inr (omega (arith, o.1), o.1)
    first r s (inr o) a b (inr e) = inr (e.0, o.1)

    second : (r s : ℕ) → Both xs ys r s → get_or xs r far ≤ get_or xs n far → get_or ys n far < get_or ys s far → Like (get_or xs n far) (get_or ys n far) → Both xs ys r n
    second r s (inl o) a b (inl e) = absurd (omega (arith, o.1, ap (λ (z : ℕ). get_or ys z far) o.0))
    second r s (inl o) a b (inr e) = absurd (omega (arith, o.1, o.2, e.1, ap (λ (z : ℕ). get_or ys z far) o.0))
    second r s (inr o) a b (inl e) = inr (o.0, omega (arith, o.0))
    second r s (inr o) a b (inr e) = inr (o.0, e.1)

    go : (r s : ℕ) → Both xs ys r s → Both xs ys (pick (ltb (get_or xs n far) (get_or xs r far)) n r) (pick (ltb (get_or ys n far) (get_or ys s far)) n s)
    go r s w = picked (λ (z : ℕ). Both xs ys z (pick (ltb (get_or ys n far) (get_or ys s far)) n s)) (ltb (get_or xs n far) (get_or xs r far)) n r
        (λ a. picked (λ (z : ℕ). Both xs ys n z) (ltb (get_or ys n far) (get_or ys s far)) n s
        (λ b. here)
        (λ b. first r s w (ltb-true (get_or xs n far) (get_or xs r far) a) (ltb-false (get_or ys n far) (get_or ys s far) b) at))
        (λ a. picked (λ (z : ℕ). Both xs ys r z) (ltb (get_or ys n far) (get_or ys s far)) n s
        (λ b. second r s w (ltb-false (get_or xs n far) (get_or xs r far) a) (ltb-true (get_or ys n far) (get_or ys s far) b) at)
        (λ b. w))

module _ (fs ts gs bs : List ℕ) (n : ℕ) (es : List ℕ) where
  abbrev Walk : ℕ → ℕ → ℕ → List ℕ → List ℕ → Tree → Walked
  Walk fuel k e ks near t = walked fs ts gs bs n es 0 fuel k e ks near t

  -- A round, from codes that are alike.
  module _ (fuel k e : ℕ) (ks : List ℕ) (t : Tree) {xs ys : List ℕ} (h : Alike xs ys)
      (rec : (k e : ℕ) (ks : List ℕ) (t : Tree) (xs ys : List ℕ) → Alike xs ys → Walk fuel k e ks xs t ≡ Walk fuel k e ks ys t) where
    abbrev cx : List ℕ
    cx = relaxed_to fs ts gs bs t.visited k e n xs

    abbrev cy : List ℕ
    cy = relaxed_to fs ts gs bs t.visited k e n ys

    a : Alike cx cy
    a = alike_to fs ts gs bs t.visited k e n h

    -- None is at the distance 0.
    stops : (near : List ℕ) → let codes = relaxed_to fs ts gs bs t.visited k e n near in
        length codes ≡ places → numbering ≤ get_or codes (nearest_to codes places) far → Walk (suc fuel) k e ks near t ≡ walked_by false t ks k
    stops near long b =
        let codes = relaxed_to fs ts gs bs t.visited k e n near in
        let r = nearest_to codes places in
        elim (ℕ_discrete r places) [
          | yes q ↦ walk_none fs ts gs bs n es 0 k e ks near t codes refl r refl (suc fuel) (omega arith) q
          | no q ↦ walk_far fs ts gs bs n es 0 k e ks near t codes refl r refl (suc fuel) (omega arith) q
              (let i = nearest_is codes r long refl q in omega (arith, b, get_d_any codes r far 0 (rw long i.0)))
        ]

    -- One is.
    module _ (r : ℕ) (p : r ≡ nearest_to cx places) (q : r ≡ nearest_to cy places) (f : get_or cx r far ≡ get_or cy r far) (l : get_or cx r far < numbering) where
      some : r ≡ places → ⊥
      some o = omega (arith, rw o at l, past cx a.long)

      below : r < places
      below = (nearest_is cx r a.long p some).0

      left : get_or cx r far ≡ get_or cx r 0
      left = get_d_any cx r far 0 (rw a.long below)

      right : get_or cy r far ≡ get_or cy r 0
      right = get_d_any cy r far 0 (rw a.long_too below)

      code : get_or cx r 0 ≡ get_or cy r 0
      code = sym left ∙ f ∙ right

      goes_on : Walk (suc fuel) k e ks xs t ≡ Walk (suc fuel) k e ks ys t
      goes_on = by_cases (ltb (get_or es r 0) net_shift)
          (λ o.
          walk_hit fs ts gs bs n es 0 k e ks xs t cx refl r p (suc fuel) (omega arith) some (omega (arith, left, l)) (ltb-true _ _ o)
          ∙ ap (λ (c : ℕ). walked_by true (added_to t (c % numbering) r) (set ks r (c / numbering)) (c / numbering)) code
          ∙ sym (walk_hit fs ts gs bs n es 0 k e ks ys t cy refl r q (suc fuel) (omega arith) some (omega (arith, left, l, code)) (ltb-true _ _ o)))
          (λ o.
          let z : suc fuel - 1 ≡ fuel = omega arith in
          (rw z at (walk_more fs ts gs bs n es 0 k e ks xs t cx refl r p (suc fuel) (omega arith) some (omega (arith, left, l)) (ltb-false (get_or es r 0) net_shift o)))
          ∙ rec _ r _ _ (set cx r far) (set cy r far) (alike_set a r far far (inl refl))
          ∙ ap (λ (c : ℕ). Walk fuel (c / numbering) r (set ks r (c / numbering)) (set cy r far) (added_to t (c % numbering) r)) code
          ∙ sym (rw z at (walk_more fs ts gs bs n es 0 k e ks ys t cy refl r q (suc fuel) (omega arith) some (omega (arith, left, l, code)) (ltb-false (get_or es r 0) net_shift o))))

    round : Walk (suc fuel) k e ks xs t ≡ Walk (suc fuel) k e ks ys t
    round = ⊎_elim
        (λ w. goes_on (nearest_to cx places) refl w.0 w.1 w.2)
        (λ w. stops xs a.long w.0 ∙ sym (stops ys a.long_too w.1))
        (alike_nearest a places (omega arith))

  -- A walk within the limit 0 comes to the same.
  pub alike_walked : (fuel k e : ℕ) (ks : List ℕ) (t : Tree) (xs ys : List ℕ) → Alike xs ys → Walk fuel k e ks xs t ≡ Walk fuel k e ks ys t
  alike_walked zero k e ks t xs ys h = walk_end fs ts gs bs n es 0 k e ks xs t ∙ sym (walk_end fs ts gs bs n es 0 k e ks ys t)
  alike_walked (suc fuel) k e ks t xs ys h = round fuel k e ks t h (λ k e ks t xs ys. alike_walked fuel k e ks t xs ys)

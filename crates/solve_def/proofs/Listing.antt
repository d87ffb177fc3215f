-- The lists of streams: how they are made, and that a place's list has all its streams.
use mathlib.Core.Path.{◌≡◌, refl, sym}
use mathlib.Core.Bool.{Bool, true, false, not, ◌||◌}
use mathlib.Core.List.{List}
use mathlib.Core.Logic.{◌⊎◌, inl, inr, ⊎_elim}
use Prim.Native.Nat.{ℕ, zero, suc, ◌+◌, ◌*◌, ◌≤◌, ◌<◌}
use native.Mathlib.Omega.{arith}
use borrow.Author.Tests.{lt-ltb, le-ltb, eqb-true}
use lib.Dec.{eqb, ltb}
use lib.ListN.{get_or}
use Rattle.num_bytes.specs.Choice.{pick}
use Rattle.num_bytes.proofs.Tests.{by_cases, clash}
use Rattle.plant_def.specs.Limits.{max_streams}
use Rattle.solve_def.specs.Near.{last_at, arc_at, relaxed_along, relaxed_at, relaxed_to}

module _ (fs ts : List ℕ) where
  -- Whether stream i starts or ends at place u.
  abbrev pub touches : ℕ → ℕ → Bool
  touches u k = eqb (get_or fs k 0) u || eqb (get_or ts k 0) u

  -- The last stream at a place is one of those looked at, or there is none.
  pub last_good : (u n : ℕ) → ((last_at fs ts u n < n) × (touches u (last_at fs ts u n) ≡ true)) ⊎ (last_at fs ts u n ≡ max_streams)
  unfolding last_at
  last_good u zero = inr refl
  last_good u (suc n) = by_cases (touches u n)
      (λ t. rw t (inl (omega arith, t)))
      (λ t. rw t (⊎_elim (λ o. inl (omega (arith, o.0), o.1)) (λ o. inr o) (last_good u n)))

  -- What an arc tells: the stream, and whether it starts at the place.
  pub arc_is : (u n : ℕ) → (d : ℕ) × (arc_at fs ts u n ≡ 2 * last_at fs ts u n + d) × (d ≤ 1) × (last_at fs ts u n < max_streams → eqb d 1 ≡ eqb (get_or fs (last_at fs ts u n) 0) u)
  unfolding arc_at last_at
  arc_is u zero = (0, refl, omega arith, λ l. absurd (omega arith))
  arc_is u (suc n) = by_cases (eqb (get_or fs n 0) u)
      (λ t. rw t (1, refl, omega arith, λ l. sym t))
      (λ t. by_cases (eqb (get_or ts n 0) u)
      (λ r. rw (t, r) (0, omega arith, omega arith, λ l. sym t))
      (λ r. rw (t, r) (arc_is u n)))

  -- So a walk along a list comes to an end.
  pub arc_less : (u i c n : ℕ) → c < n → 2 * i ≤ c → n ≤ 2 * max_streams → pick {A = ℕ} (ltb (arc_at fs ts u i) n) (suc (arc_at fs ts u i)) 0 < pick {A = ℕ} (ltb c n) (suc c) 0
  arc_less u i c n l h m =
      rw (lt-ltb c n l)
      (⊎_elim (λ o. go (ltb (arc_at fs ts u i) n) (omega (arith, o.0, (arc_is u i).1, (arc_is u i).2)))
      (λ o. rw (le-ltb (arc_at fs ts u i) n (omega (arith, o, (arc_is u i).1))) (omega arith))
      (last_good u i))
    where
      go : (b : Bool) → arc_at fs ts u i < c → pick {A = ℕ} b (suc (arc_at fs ts u i)) 0 < suc c
      go true h = omega arith
      go false h = omega arith

  -- Streams that do not touch the place change nothing.
  module _ (gs bs : List ℕ) (ls : List Bool) (k e : ℕ) where
    untouched : (i : ℕ) (near : List ℕ) → touches e i ≡ false → relaxed_at fs ts gs bs ls k e i near ≡ near
    unfolding relaxed_at
    untouched i near = go (eqb (get_or fs i 0) e) (eqb (get_or ts i 0) e) _ _
      where
        go : (a b : Bool) (x y : List ℕ) → a || b ≡ false → pick a x (pick b y near) ≡ near
        go true b x y h = clash true refl h
        go false true x y h = clash true refl h
        go false false x y h = refl

    -- The streams of a place are looked at from the last one on.
    pub relaxed_last : (n i : ℕ) (near : List ℕ) → n ≤ max_streams → i ≡ last_at fs ts e n → i < n
        → relaxed_to fs ts gs bs ls k e n near ≡ relaxed_to fs ts gs bs ls k e i (relaxed_at fs ts gs bs ls k e i near)
    unfolding relaxed_to last_at
    relaxed_last zero i near few h l = absurd (omega arith)
    relaxed_last (suc n) i near few h l = by_cases (touches e n)
        (λ t. let q : i ≡ n = rw t at h in rw q)
        (λ t.
        let q : i ≡ last_at fs ts e n = rw t at h in
        rw (untouched n near t) (relaxed_last n i near (omega arith) q (⊎_elim (λ o. rw q o.0) (λ o. absurd (omega (arith, o, q, few))) (last_good e n))))

    -- Without one nothing changes.
    pub relaxed_none : (n : ℕ) (near : List ℕ) → n ≤ last_at fs ts e n → relaxed_to fs ts gs bs ls k e n near ≡ near
    unfolding relaxed_to last_at
    relaxed_none zero near l = refl
    relaxed_none (suc n) near l = by_cases (touches e n)
        (λ t. absurd (omega (arith, rw t at l)))
        (λ t. rw (untouched n near t) (relaxed_none n near (omega (arith, rw t at l))))

  -- A stream that touches place e, by whether it starts there.
  module _ (e i : ℕ) (t : touches e i ≡ true) where
    other : eqb (get_or fs i 0) e ≡ false → eqb (get_or ts i 0) e ≡ true
    other h = rw h at t

    -- The place is the tail of the arc that is gone along.
    pub tail_touching : (f : Bool) → f ≡ eqb (get_or fs i 0) e → pick f (get_or fs i 0) (get_or ts i 0) ≡ e
    tail_touching true h = eqb-true (get_or fs i 0) e (sym h)
    tail_touching false h = eqb-true (get_or ts i 0) e (other (sym h))

    -- What one stream of the place changes.
    pub relaxed_touching : (G : Bool → List ℕ) (ls : List Bool) (k : ℕ) (near : List ℕ) (f : Bool) → f ≡ eqb (get_or fs i 0) e
        → relaxed_along ls k (pick (not f) (get_or fs i 0) (get_or ts i 0)) (get_or (G f) i 0) i near ≡ relaxed_at fs ts (G true) (G false) ls k e i near
    unfolding relaxed_at
    relaxed_touching G ls k near true h = rw (← h)
    relaxed_touching G ls k near false h = rw (← h, other (sym h))

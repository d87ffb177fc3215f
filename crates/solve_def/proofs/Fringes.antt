-- The fringe of a walk: every place with a code within the limit stays in it, and the nearest place of it is the nearest of all.
use mathlib.Core.Path.{◌≡◌, refl, sym, ◌∙◌, ap}
use mathlib.Core.Bool.{Bool, true, false}
use mathlib.Core.List.{List}
use mathlib.Core.Logic.{◌⊎◌, inl, inr, ⊎_elim}
use Prim.Native.Nat.{ℕ, zero, suc, ◌+◌, ◌-◌, ◌/◌, ◌^◌, ◌≤◌, ◌<◌}
use native.Mathlib.Omega.{arith}
use native.Mathlib.Decide.{ℕ_discrete, dec_le}
use borrow.Author.Tests.{ltb-true, ltb-false, le-ltb}
use lib.Bits.{bit_and, bit_or, bit_xor, or_zero_r}
use lib.Count.{count_trailing_zeros}
use lib.Dec.{ltb}
use lib.ListN.{length, get_or, set, replicate, get_or-eq_default, get_or-replicate}
use lib.Seq.{get_or-set_same, get_or-set_other}
use Rattle.num_bytes.specs.Choice.{pick}
use Rattle.num_bytes.proofs.Tests.{by_cases, clash, or_left, or_right, or_cases}
use Rattle.num_bytes.proofs.Filled.{get_d_any}
use Rattle.plant_def.specs.Limits.{places}
use Rattle.num_bytes.specs.Sums.{bit}
use Rattle.num_bytes.proofs.Binary.{unlike, bit_or_lem, bit_xor_lem, bit_zero, bit_same, bit_other}
use Rattle.solve_def.specs.Sizes.{far, numbering}
use Rattle.solve_def.specs.Near.{code_of, lessened, nearest_to, nearest_within}
use Rattle.solve_def.proofs.Nearing.{Nearest, nearest_good}
use Rattle.solve_def.specs.Fringe.{Fringe, fringe_bit}
use Rattle.flow_def.proofs.Lowest.{lowest, below_lowest, without_lowest, with_others}

-- Before the walk there is none.
pub fringe_none : (limit : ℕ) → Fringe limit (replicate places far) 0
fringe_none limit = record {
  inside = λ h b. clash (bit h 0) b (bit_zero h);
  all = λ v l c w. absurd (omega (arith, c, get_or-replicate {A = ℕ} places v far 0 l));
}

-- A place is offered a distance.
module _ (limit : ℕ) (near : List ℕ) (m v d i : ℕ) (w : Fringe limit near m) (l : v < places) (long : length near ≡ places) (few : i < numbering) where
  abbrev Offered : List ℕ → ℕ → Type 0
  Offered codes x = Fringe limit codes (bit_or m x)

  set_in : (x : ℕ) → ((h : ℕ) → bit h x ≡ true → h ≡ v) → (d ≤ limit → bit v x ≡ true) → Offered (set near v (code_of d i)) x
  set_in x own here = record {
    inside = λ h b. or_cases (bit h m) (bit h x) (sym (bit_or_lem h m x) ∙ b) (w.inside h) (λ o. rw (own h o) l);
    all = λ u k c e. bit_or_lem u m x ∙ (elim (ℕ_discrete u v) [
      | yes q ↦ or_right (bit u m) (bit u x) (rw q (here (within (rw (q, get_or-set_same near v (code_of d i) 0 (rw long l)) at e))))
      | no q ↦ or_left (bit u m) (bit u x) (w.all u k (rw (get_or-set_other near v u (code_of d i) 0 q) at c) (rw (get_or-set_other near v u (code_of d i) 0 q) at e))
    ]);
  }
    where
      within : code_of d i / numbering ≤ limit → d ≤ limit
      within e = omega (arith, e, few)

  -- The fringe after an offer.
  pub fringe_offered : Offered (lessened near v (code_of d i)) (fringe_bit limit near v d i)
  fringe_offered = by_cases (ltb (code_of d i) (get_or near v 0))
      (λ t. rw t (by_cases (ltb limit d)
      (λ s. rw s (set_in 0 (λ h b. clash (bit h 0) b (bit_zero h)) (λ o. absurd (omega (arith, ltb-true limit d s)))))
      (λ s. rw s (set_in (2 ^ v) own (λ o. bit_same v)))))
      (λ t. rw (t, or_zero_r m) w)
    where
      own : (h : ℕ) → bit h (2 ^ v) ≡ true → h ≡ v
      own h b = elim (ℕ_discrete h v) [ yes q ↦ q | no q ↦ clash (bit h (2 ^ v)) b (bit_other h v q) ]

-- A place is visited.
pub fringe_visited : (limit : ℕ) (near : List ℕ) (m r : ℕ) → Fringe limit near m → r < places → length near ≡ places → bit r m ≡ true
    → Fringe limit (set near r far) (bit_xor m (2 ^ r))
fringe_visited limit near m r w l long on = record {
  inside = λ h b. elim (ℕ_discrete h r) [ yes q ↦ rw q l | no q ↦ w.inside h (sym (other h q) ∙ b) ];
  all = λ v k c e. elim (ℕ_discrete v r) [
    | yes q ↦ absurd (omega (arith, rw (q, get_or-set_same near r far 0 (rw long l)) at c))
    | no q ↦ other v q ∙ w.all v k (rw (get_or-set_other near r v far 0 q) at c) (rw (get_or-set_other near r v far 0 q) at e)
  ];
}
  where
    plain : (b : Bool) → unlike b false ≡ b
    plain true = refl
    plain false = refl

    other : (h : ℕ) → (h ≡ r → ⊥) → bit h (bit_xor m (2 ^ r)) ≡ bit h m
    other h q = bit_xor_lem h m (2 ^ r) ∙ ap (unlike (bit h m)) (bit_other h r q) ∙ plain (bit h m)

-- The first place with the least code is the first of those.
nearest_first : (near : List ℕ) (n : ℕ) → length near ≡ places → n ≤ places → nearest_to near n < places
    → (v : ℕ) → v < nearest_to near n → get_or near (nearest_to near n) far < get_or near v far
unfolding nearest_to
nearest_first near zero h l k v m = absurd (omega arith)
nearest_first near (suc n) h l k v m =
    go (nearest_to near n) (nearest_good near n h (omega arith)) (nearest_first near n h (omega arith)) k m
  where
    go : (r : ℕ) → Nearest near n r → (r < places → (u : ℕ) → u < r → get_or near r far < get_or near u far)
        → pick (ltb (get_or near n far) (get_or near r far)) n r < places → v < pick (ltb (get_or near n far) (get_or near r far)) n r
        → get_or near (pick (ltb (get_or near n far) (get_or near r far)) n r) far < get_or near v far
    go r w rest = by_cases (ltb (get_or near n far) (get_or near r far))
        (λ t. rw t (λ a b. omega (arith, ltb-true (get_or near n far) (get_or near r far) t, w.least v b)))
        (λ t. rw t (λ a b. rest a v b))

-- A place whose code is the least within the limit, and less than those before it, is the nearest; and where there is none, there is none.
module _ (near : List ℕ) (limit : ℕ) (long : length near ≡ places) where
  -- A place with a code within the limit.
  abbrev pub Within : ℕ → Type 0
  Within v = (v < places) × (get_or near v 0 < far) × (get_or near v 0 / numbering ≤ limit)

  any : (v : ℕ) → v < places → get_or near v far ≡ get_or near v 0
  any v l = get_d_any near v far 0 (rw long l)

  good : Nearest near places (nearest_to near places)
  good = nearest_good near places long (omega arith)

  past : get_or near places far ≡ far
  past = get_or-eq_default near far {n = places} (omega (arith, long))

  within_none : ((v : ℕ) → Within v → ⊥) → places ≡ nearest_within near limit
  within_none none = go (nearest_to near places) good
    where
      go : (s : ℕ) → Nearest near places s → places ≡ pick (ltb limit (get_or near s far / numbering)) places s
      go s w = by_cases (ltb limit (get_or near s far / numbering))
          (λ t. rw t)
          (λ t. rw t (⊎_elim (λ o. absurd (none s (o.0, rw (← any s o.0) o.1, rw (← any s o.0) (ltb-false _ _ t)))) (λ o. sym o) w.one))

  within_one : (r : ℕ) → Within r → ((v : ℕ) → Within v → get_or near r 0 ≤ get_or near v 0) → ((v : ℕ) → v < r → Within v → get_or near r 0 < get_or near v 0)
      → r ≡ nearest_within near limit
  within_one r h least first = is ∙ sym (rw (← is, any r h.0, le-ltb limit _ h.2))
    where
      s : ℕ
      s = nearest_to near places

      lower : get_or near s far ≤ get_or near r 0
      lower = rw (← any r h.0) (good.least r h.0)

      some : s < places
      some = ⊎_elim (λ o. o.0) (λ o. absurd (omega (arith, rw o at lower, past, h.1))) good.one

      inner : Within s
      inner = (some, omega (arith, lower, any s some, h.1), omega (arith, lower, any s some, h.2))

      is : r ≡ nearest_to near places
      is = elim (ℕ_discrete r (nearest_to near places)) [
        | yes q ↦ q
        | no q ↦ elim (dec_le r (nearest_to near places)) [
          | yes k ↦ absurd (omega (arith, nearest_first near places long (omega arith) some r (omega arith), any s some, any r h.0, least s inner))
          | no k ↦ absurd (omega (arith, first s (omega arith) inner, any s some, lower))
        ]
      ]

-- The places of the fringe m below u are looked at: the first with the least code, and that code; `left` are the others.
pub record Scan (near : List ℕ) (m left at best : ℕ) : Type 0 where
  pub u : ℕ
  pub within_range : u ≤ places
  pub one : ((at < u) × (best ≡ get_or near at 0) × (best < far) × ((v : ℕ) → v < at → bit v m ≡ true → best < get_or near v 0)) ⊎ ((at ≡ places) × (best ≡ far))
  pub least : (v : ℕ) → v < u → bit v m ≡ true → best ≤ get_or near v 0
  pub inside : (h : ℕ) → bit h left ≡ true → (u ≤ h) × (h < places)
  pub others : (v : ℕ) → u ≤ v → bit v m ≡ true → bit v left ≡ true

-- None is looked at yet.
pub scan_none : (limit : ℕ) (near : List ℕ) (m : ℕ) → Fringe limit near m → Scan near m m places far
scan_none limit near m w = record {
  u = 0;
  within_range = omega arith;
  one = inr (refl, refl);
  least = λ v l b. absurd (omega arith);
  inside = λ h b. (omega arith, w.inside h b);
  others = λ v l b. b;
}

-- The lowest of those that are left is looked at.
module _ (near : List ℕ) (m left at best : ℕ) (w : Scan near m left at best) (some : 0 < left) (small : left < 2 ^ 64) where
  abbrev t : ℕ
  t = count_trailing_zeros 64 left

  abbrev rest : ℕ
  rest = bit_and left (left - 1)

  scan_in : (w.u ≤ t) × (t < places)
  scan_in = w.inside t (lowest 64 left some small)

  -- No place of the fringe was passed by.
  between : (v : ℕ) → w.u ≤ v → v < t → bit v m ≡ true → ⊥
  between v k l b = clash (bit v left) (w.others v k b) (below_lowest 64 left v l)

  inner : (h : ℕ) → bit h rest ≡ true → (t + 1 ≤ h) × (h < places)
  inner h b = elim (ℕ_discrete h t) [
    | yes q ↦ clash (bit h rest) b (ap (λ (x : ℕ). bit x rest) q ∙ without_lowest 64 left some small)
    | no q ↦ elim (dec_le h t) [
      | yes k ↦ clash (bit h left) (sym (with_others 64 left h some small q) ∙ b) (below_lowest 64 left h (omega arith))
      | no k ↦ (omega arith, (w.inside h (sym (with_others 64 left h some small q) ∙ b)).1)
    ]
  ]

  outer : (v : ℕ) → t + 1 ≤ v → bit v m ≡ true → bit v rest ≡ true
  outer v k b =
      let q : (v ≡ t → ⊥) = λ e. omega arith in
      with_others 64 left v some small q ∙ w.others v (omega (arith, k, scan_in.0)) b

  lower : (c : ℕ) → c ≤ best → c ≤ get_or near t 0 → (v : ℕ) → v < t + 1 → bit v m ≡ true → c ≤ get_or near v 0
  lower c k h v l b = elim (ℕ_discrete v t) [
    | yes q ↦ rw q h
    | no q ↦ elim (dec_le w.u v) [ yes o ↦ absurd (between v o (omega arith) b) | no o ↦ omega (arith, k, w.least v (omega arith) b) ]
  ]

  -- One more is looked at, and is nearer.
  pub scan_nearer : get_or near t 0 < best → Scan near m rest t (get_or near t 0)
  scan_nearer h = record {
    u = t + 1;
    within_range = omega (arith, scan_in.1);
    one = inl (omega arith, refl, ⊎_elim (λ o. omega (arith, h, o.2)) (λ o. omega (arith, h, o.1)) w.one, before);
    least = lower (get_or near t 0) (omega (arith, h)) (omega arith);
    inside = inner;
    others = outer;
  }
    where
      before : (v : ℕ) → v < t → bit v m ≡ true → get_or near t 0 < get_or near v 0
      before v l b = elim (dec_le w.u v) [ yes o ↦ absurd (between v o l b) | no o ↦ omega (arith, h, w.least v (omega arith) b) ]

  -- Or is not.
  pub scan_not : best ≤ get_or near t 0 → Scan near m rest at best
  scan_not h = record {
    u = t + 1;
    within_range = omega (arith, scan_in.1);
    one = ⊎_elim (λ o. inl (omega (arith, o.0, scan_in.0), o.1, o.2, o.3)) (λ o. inr o) w.one;
    least = lower best (omega arith) h;
    inside = inner;
    others = outer;
  }

-- All are looked at.
module _ (limit : ℕ) (near : List ℕ) (m at best : ℕ) (o : Fringe limit near m) (long : length near ≡ places) (w : Scan near m 0 at best) where
  -- No code within the limit is less.
  no_less : (v : ℕ) → Within near limit long v → best ≤ get_or near v 0
  no_less v h = elim (dec_le w.u v) [
    | yes k ↦ clash (bit v 0) (w.others v k (o.all v h.0 h.1 h.2)) (bit_zero v)
    | no k ↦ w.least v (omega arith) (o.all v h.0 h.1 h.2)
  ]

  -- The first with the least code within the limit is the nearest.
  pub scan_near : best / numbering ≤ limit → at ≡ nearest_within near limit
  scan_near h = ⊎_elim
      (λ (k : (at < w.u) × (best ≡ get_or near at 0) × (best < far) × ((v : ℕ) → v < at → bit v m ≡ true → best < get_or near v 0)).
      within_one near limit long at
      (omega (arith, k.0, w.within_range), rw k.1 at k.2, rw k.1 at h)
      (λ v e. rw (← k.1) (no_less v e))
      (λ v l e. rw (← k.1) (k.3 v l (o.all v e.0 e.1 e.2))))
      (λ k. k.0 ∙ within_none near limit long (λ v e. omega (arith, k.1, no_less v e, e.1)))
      w.one

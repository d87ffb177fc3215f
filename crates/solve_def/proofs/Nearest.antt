-- Settled amounts: the step condition holds at 1, whatever the potentials, and amounts are in range; what is over rises little.
use mathlib.Core.Path.{◌≡◌, refl, sym, ◌∙◌, ap, subst}
use mathlib.Core.Bool.{Bool, true, false}
use mathlib.Core.List.{List}
use lib.IntN.{pos, ◌+ℤ◌, ◌-ℤ◌}
use Prim.Native.Nat.{ℕ, zero, suc, ◌+◌, ◌-◌, ◌*◌, ◌/◌, ◌≤◌, ◌<◌}
use native.Mathlib.Nat.{mul-le-mul_left, mul-le-mul_right, div-add-mod, mod-lt}
use native.Mathlib.Omega.{arith}
use native.Mathlib.Decide.{dec_le, ℕ_discrete}
use borrow.Author.Tests.{ltb-true, ltb-false, leb-true, leb-false}
use lib.Dec.{ltb, leb}
use lib.ListN.{length, get_or, set, length-set}
use lib.Seq.{set-get_or, get_or-set_same, get_or-set_other}
use Rattle.num_bytes.specs.Choice.{pick}
use Rattle.num_bytes.proofs.Tests.{picked}
use Rattle.plant_def.specs.declared.Stream.{Stream}
use Rattle.plant_def.specs.Limits.{max_units, places, max_streams}
use Rattle.flow_def.specs.Flows.{stream_at}
use Rattle.flow_def.specs.Certificate.{weight_of}
use Rattle.num_bytes.proofs.Integers.{Le, plus_val}
use Rattle.solve_def.specs.Sizes.{flow_shift, most_flow, net_shift, most_excess}
use Rattle.solve_def.specs.Held.{unshifted, reading_of, low_of, high_of, StepMet, StepMetAt}
use Rattle.solve_def.specs.declared.Hint.{Hint}
use Rattle.solve_def.specs.declared.State.{State}
use Rattle.solve_def.specs.Model.{clamped, nearest_amount, settled_of, settled_to, nets_to, settled, as_hint, excess_sum}
use Rattle.solve_def.specs.SolverNeeds.{Start, Sound}
use Rattle.solve_def.proofs.Amounts.{net, unshifted_val}
use Rattle.solve_def.proofs.Bounds.{weight_none, weight_some, met_more, agree_met}
use Rattle.solve_def.proofs.Streams.{Solvable}
use Rattle.solve_def.proofs.Overs.{over_to, over_held, over_moved}
use Rattle.solve_def.proofs.Booking.{nets_around, nets_long, nets_right, net_value}

-- A number brought into a range: it is in it; above its low it was not raised, below its high not lowered.
module _ (L H x : ℕ) where
  clamped_in : L ≤ H → (L ≤ clamped L H x) × (clamped L H x ≤ H)
  clamped_in o =
      picked (λ (y : ℕ). (L ≤ y) × (y ≤ H)) (ltb x L) L (pick (ltb H x) H x)
      (λ e. (omega arith, o))
      (λ e. picked (λ (y : ℕ). (L ≤ y) × (y ≤ H)) (ltb H x) H x (λ f. (o, omega arith)) (λ f. (ltb-false x L e, ltb-false H x f)))

  clamped_down : L < clamped L H x → clamped L H x ≤ x
  clamped_down =
      picked (λ (y : ℕ). L < y → y ≤ x) (ltb x L) L (pick (ltb H x) H x)
      (λ e l. absurd (omega arith))
      (λ e. picked (λ (y : ℕ). L < y → y ≤ x) (ltb H x) H x (λ f l. omega (arith, ltb-true H x f)) (λ f l. omega arith))

  clamped_up : clamped L H x < H → x ≤ clamped L H x
  clamped_up =
      picked (λ (y : ℕ). y < H → x ≤ y) (ltb x L) L (pick (ltb H x) H x)
      (λ e l. omega (arith, ltb-true x L e))
      (λ e. picked (λ (y : ℕ). y < H → x ≤ y) (ltb H x) H x (λ f l. absurd (omega arith)) (λ f l. omega arith))

-- The nearest amount, before it is brought into range, meets both bounds; the lower where it is not cut off at 0.
module _ (w R pu pv : ℕ) (l : 1 ≤ w) where
  div_parts : (a : ℕ) → (2 * w * (a / (2 * w)) ≤ a) × (a < 2 * w * (a / (2 * w)) + 2 * w)
  div_parts a = (omega (arith, div-add-mod a (2 * w)), omega (arith, div-add-mod a (2 * w), mod-lt a (wide l)))
    where
      wide : 1 ≤ w → 0 < 2 * w
      wide l = omega arith

  nearest_low : 1 ≤ nearest_amount w R pu pv → 2 * w * nearest_amount w R pu pv + pu ≤ pv + 2 * w * R + w
  nearest_low =
      picked (λ (y : ℕ). 1 ≤ y → 2 * w * y + pu ≤ pv + 2 * w * R + w) (leb pu (pv + w)) (R + (pv + w - pu) / (2 * w)) (R - (pu - pv + w - 1) / (2 * w))
      (λ e o. above ((pv + w - pu) / (2 * w)) (leb-true pu (pv + w) e) (div_parts (pv + w - pu)))
      (λ e o. below ((pu - pv + w - 1) / (2 * w)) (leb-false pu (pv + w) e) (div_parts (pu - pv + w - 1)) o)
    where
      above : (q : ℕ) → pu ≤ pv + w → (2 * w * q ≤ pv + w - pu) × (pv + w - pu < 2 * w * q + 2 * w) → 2 * w * (R + q) + pu ≤ pv + 2 * w * R + w
      above q h d = omega (arith, d.0)

      below : (q : ℕ) → pv + w < pu → (2 * w * q ≤ pu - pv + w - 1) × (pu - pv + w - 1 < 2 * w * q + 2 * w) → 1 ≤ R - q
          → 2 * w * (R - q) + pu ≤ pv + 2 * w * R + w
      below q h d o = omega (arith, d.1, whole (R - q) (omega arith))
        where
          whole : (y : ℕ) → y + q ≡ R → w * y + w * q ≡ w * R
          whole y e = omega (arith, ap (λ k. w * k) e)

  nearest_high : pv + 2 * w * R ≤ 2 * w * nearest_amount w R pu pv + w + pu
  nearest_high =
      picked (λ (y : ℕ). pv + 2 * w * R ≤ 2 * w * y + w + pu) (leb pu (pv + w)) (R + (pv + w - pu) / (2 * w)) (R - (pu - pv + w - 1) / (2 * w))
      (λ e. above ((pv + w - pu) / (2 * w)) (leb-true pu (pv + w) e) (div_parts (pv + w - pu)))
      (λ e. below ((pu - pv + w - 1) / (2 * w)) (leb-false pu (pv + w) e) (div_parts (pu - pv + w - 1)))
    where
      above : (q : ℕ) → pu ≤ pv + w → (2 * w * q ≤ pv + w - pu) × (pv + w - pu < 2 * w * q + 2 * w) → pv + 2 * w * R ≤ 2 * w * (R + q) + w + pu
      above q h d = omega (arith, d.1)

      below : (q : ℕ) → pv + w < pu → (2 * w * q ≤ pu - pv + w - 1) × (pu - pv + w - 1 < 2 * w * q + 2 * w) → pv + 2 * w * R ≤ 2 * w * (R - q) + w + pu
      below q h d = omega (arith, d.0, more (R - q) (omega arith))
        where
          more : (y : ℕ) → R ≤ y + q → w * R ≤ w * y + w * q
          more y e = omega (arith, mul-le-mul_left w e)

-- The settled amount is in range and meets the step condition.
settled_in : (s : Stream) (pu pv : ℕ) → low_of s ≤ high_of s → (low_of s ≤ settled_of s pu pv) × (settled_of s pu pv ≤ high_of s)
settled_in s pu pv o = clamped_in (low_of s) (high_of s) (nearest_amount (weight_of s) (reading_of s) pu pv) o

settled_met : (s : Stream) (pu pv : ℕ) → 1 ≤ weight_of s → StepMet 1 (weight_of s) (settled_of s pu pv) (reading_of s) pu pv (low_of s) (high_of s)
settled_met s pu pv l = record {
  low = λ c. low (clamped_down (low_of s) (high_of s) (nearest_amount (weight_of s) (reading_of s) pu pv) (omega arith)) c;
  high = λ c. high (clamped_up (low_of s) (high_of s) (nearest_amount (weight_of s) (reading_of s) pu pv) (omega arith));
}
  where
    w : ℕ
    w = weight_of s

    R : ℕ
    R = reading_of s

    X : ℕ
    X = settled_of s pu pv

    low : settled_of s pu pv ≤ nearest_amount (weight_of s) (reading_of s) pu pv → low_of s + 1 ≤ settled_of s pu pv
        → 2 * weight_of s * settled_of s pu pv + pu ≤ pv + 2 * weight_of s * reading_of s + weight_of s * 1
    low h c = omega (arith, nearest_low w R pu pv l (omega arith), mul-le-mul_left w h)

    high : nearest_amount (weight_of s) (reading_of s) pu pv ≤ settled_of s pu pv
        → pv + 2 * weight_of s * reading_of s ≤ 2 * weight_of s * settled_of s pu pv + weight_of s * 1 + pu
    high h = omega (arith, nearest_high w R pu pv l, mul-le-mul_left w h)

-- Two amounts in one range, held at d and at 1 by the same potentials, differ by at most d.
module _ (d w X Y R u v L H : ℕ) (l : 1 ≤ w) (a : StepMet d w X R u v L H) (b : StepMet 1 w Y R u v L H) (i : (L ≤ X) × (X ≤ H)) (j : (L ≤ Y) × (Y ≤ H)) where
  near_above : Y ≤ X + d
  near_above = elim (dec_le Y (X + d)) [ yes k ↦ k | no k ↦ absurd (far (omega arith)) ]
    where
      far : X + d + 1 ≤ Y → ⊥
      far h = omega (arith, mul-le-mul_left w h, a.high (omega (arith, j.1)), b.low (omega (arith, i.0)))

  near_below : X ≤ Y + d
  near_below = elim (dec_le X (Y + d)) [ yes k ↦ k | no k ↦ absurd (far (omega arith)) ]
    where
      far : Y + d + 1 ≤ X → ⊥
      far h = omega (arith, mul-le-mul_left w h, a.low (omega (arith, j.0)), b.high (omega (arith, i.1)))

-- Element by element.
module _ (ss : List Stream) (ps xs : List ℕ) where
  abbrev amount : ℕ → ℕ
  amount k = settled_of (stream_at ss k) (get_or ps (stream_at ss k).from 0) (get_or ps (stream_at ss k).to 0)

  -- As many amounts as before.
  pub settled_long : (n : ℕ) → length (settled_to ss ps xs n) ≡ length xs
  unfolding settled_to
  settled_long zero = refl
  settled_long (suc n) = go (stream_at ss n).metered (settled_long n)
    where
      go : (b : Bool) → length (settled_to ss ps xs n) ≡ length xs → length (pick b (set (settled_to ss ps xs n) n (amount n)) (settled_to ss ps xs n)) ≡ length xs
      go true r = length-set (settled_to ss ps xs n) n _ ∙ r
      go false r = r

  settled_past : (n k : ℕ) → n ≤ k → get_or (settled_to ss ps xs n) k 0 ≡ get_or xs k 0
  unfolding settled_to
  settled_past zero k l = refl
  settled_past (suc n) k l = go (stream_at ss n).metered (settled_past n k (omega arith))
    where
      go : (b : Bool) → get_or (settled_to ss ps xs n) k 0 ≡ get_or xs k 0 → get_or (pick b (set (settled_to ss ps xs n) n (amount n)) (settled_to ss ps xs n)) k 0 ≡ get_or xs k 0
      go true r = get_or-set_other (settled_to ss ps xs n) n k _ 0 (λ q. omega arith) ∙ r
      go false r = r

  -- The amount of a metered stream is settled, another's stays.
  pub settled_at : (n k : ℕ) → n ≤ length xs → k < n → get_or (settled_to ss ps xs n) k 0 ≡ pick (stream_at ss k).metered (amount k) (get_or xs k 0)
  unfolding settled_to
  settled_at zero k m l = absurd (omega arith)
  settled_at (suc n) k m l = elim (ℕ_discrete k n) [
    | yes q ↦ subst (λ (j : ℕ). get_or (settled_to ss ps xs (suc n)) j 0 ≡ pick (stream_at ss j).metered (amount j) (get_or xs j 0)) (sym q) (here (stream_at ss n).metered)
    | no q ↦ there (stream_at ss n).metered q (settled_at n k (omega arith) (omega arith))
  ]
    where
      here : (b : Bool) → get_or (pick b (set (settled_to ss ps xs n) n (amount n)) (settled_to ss ps xs n)) n 0 ≡ pick b (amount n) (get_or xs n 0)
      here true = get_or-set_same (settled_to ss ps xs n) n _ 0 (rw (settled_long n) (omega arith))
      here false = settled_past n n (omega arith)

      there : (b : Bool) → (k ≡ n → ⊥) → get_or (settled_to ss ps xs n) k 0 ≡ pick (stream_at ss k).metered (amount k) (get_or xs k 0)
          → get_or (pick b (set (settled_to ss ps xs n) n (amount n)) (settled_to ss ps xs n)) k 0 ≡ pick (stream_at ss k).metered (amount k) (get_or xs k 0)
      there true q r = get_or-set_other (settled_to ss ps xs n) n k _ 0 q ∙ r
      there false q r = r

  -- Amounts that are settled already stay as they are.
  pub settled_again : (n : ℕ) → ((k : ℕ) → k < n → (stream_at ss k).metered ≡ true → get_or xs k 0 ≡ amount k) → settled_to ss ps xs n ≡ xs
  unfolding settled_to
  settled_again zero h = refl
  settled_again (suc n) h = go (stream_at ss n).metered (h n (omega arith)) (settled_again n (λ k l. h k (omega arith)))
    where
      go : (b : Bool) → (b ≡ true → get_or xs n 0 ≡ amount n) → settled_to ss ps xs n ≡ xs → pick b (set (settled_to ss ps xs n) n (amount n)) (settled_to ss ps xs n) ≡ xs
      go true e r = ap (λ (ys : List ℕ). set ys n (amount n)) r ∙ ap (set xs n) (sym (e refl)) ∙ set-get_or xs n 0
      go false e r = r

-- What is over in a state, by its amounts.
pub sound_over : (ss : List Stream) (d b : ℕ) (st : State) → Sound ss d b st → over_to places (net ss st.flows) ≡ excess_sum st.nets
sound_over ss d b st h =
    subst (λ (n : ℕ). over_to n (net ss st.flows) ≡ excess_sum st.nets) h.netted
    (over_held st.nets (net ss st.flows) (λ u l. h.nets u (rw h.netted at l)))

-- The settled state.
module _ (ss : List Stream) (v : Solvable ss) (h : Hint) (b : ℕ) (s : Start ss b h) where
  abbrev ps : List ℕ
  ps = h.potentials

  -- The settled amounts.
  abbrev pub ys : List ℕ
  ys = settled_to ss h.potentials h.flows (length ss)

  at : (k : ℕ) → k < length ss
      → get_or ys k 0 ≡ pick (stream_at ss k).metered (settled_of (stream_at ss k) (get_or ps (stream_at ss k).from 0) (get_or ps (stream_at ss k).to 0)) (get_or h.flows k 0)
  at k l = settled_at ss ps h.flows (length ss) k (omega (arith, s.long, v.plain.few)) l

  -- Each meets the step condition at 1 and is in range.
  pub settled_one : (k : ℕ) → k < length ss → StepMetAt ss ys ps 1 k × ((low_of (stream_at ss k) ≤ get_or ys k 0) × (get_or ys k 0 ≤ high_of (stream_at ss k)))
  settled_one k l = rw (at k l) (go (stream_at ss k).metered refl)
    where
      t : Stream
      t = stream_at ss k

      pu : ℕ
      pu = get_or h.potentials (stream_at ss k).from 0

      pv : ℕ
      pv = get_or h.potentials (stream_at ss k).to 0

      X : ℕ
      X = settled_of (stream_at ss k) pu pv

      go : (m : Bool) → (stream_at ss k).metered ≡ m
          → StepMet 1 (weight_of t) (pick m X (get_or h.flows k 0)) (reading_of t) pu pv (low_of t) (high_of t)
          × ((low_of t ≤ pick m X (get_or h.flows k 0)) × (pick m X (get_or h.flows k 0) ≤ high_of t))
      go true e = (settled_met t pu pv (rw (weight_some t e) (v.weighed k l e)), settled_in t pu pv (v.ranged k l).ordered)
      go false e =
          let r = s.unmetered k (omega (arith, v.plain.few)) e in (
            agree_met 1 (weight_of t) (get_or h.flows k 0) (reading_of t) pu pv (low_of t) (high_of t) (weight_none t e) (s.agree k l e),
            (omega (arith, (v.ranged k l).free e), omega (arith, (v.ranged k l).wide ((v.ranged k l).free e), r.0, s.within)),
          )

  -- Each can be held.
  pub settled_most : (k : ℕ) → k < length ss → get_or ys k 0 ≤ most_flow
  settled_most k l = omega (arith, (settled_one k l).1.1, (v.ranged k l).most)

  -- Amounts of unmetered streams are as they were.
  pub settled_free : (k : ℕ) → (stream_at ss k).metered ≡ false → get_or ys k 0 ≡ get_or h.flows k 0
  settled_free k e = elim (dec_le (length ss) k) [
    | yes q ↦ settled_past ss ps h.flows (length ss) k q
    | no q ↦ at k (omega arith) ∙ ap (λ (m : Bool). pick m (settled_of (stream_at ss k) (get_or ps (stream_at ss k).from 0) (get_or ps (stream_at ss k).to 0)) (get_or h.flows k 0)) e
  ]

  settled_nets : (u : ℕ) → u < places → net ss ys u ≡ pos (get_or (nets_to ss ys (length ss)) u 0) -ℤ pos net_shift
  settled_nets u l =
      net_value (net ss ys u) (get_or (nets_to ss ys (length ss)) u 0) (nets_right ss ys (length ss) v.plain.few v.plain.inside settled_most u l)

  -- So the settled state is sound at every step.
  pub settled_sound : (d : ℕ) → 1 ≤ d → excess_sum (settled ss h).nets + 2 * max_streams * d ≤ most_excess → Sound ss d b (settled ss h)
  settled_sound d l1 o = record {
    met = λ k l. met_more d _ _ _ _ _ _ _ l1 (settled_one k l).0;
    inside = λ k l. (settled_one k l).1;
    agreed = s.agree;
    long = settled_long ss ps h.flows (length ss) ∙ s.long;
    per_place = s.per_place;
    netted = (nets_around ss ys (length ss) v.plain.few v.plain.inside settled_most).long;
    nets = settled_nets;
    floor = s.floor;
    capped = s.capped;
    over = o;
    sized = λ k l e. rw (settled_free k e) (s.unmetered k l e);
  }

  -- What is over, by the amounts.
  pub settled_over : over_to places (net ss ys) ≡ excess_sum (settled ss h).nets
  settled_over =
      subst (λ (n : ℕ). over_to n (net ss ys) ≡ excess_sum (nets_to ss ys (length ss))) (nets_long ss ys (length ss))
      (over_held (nets_to ss ys (length ss)) (net ss ys) (λ u l. settled_nets u (rw (nets_long ss ys (length ss)) at l)))

-- A wider range.
pub start_more : (ss : List Stream) (b c : ℕ) (h : Hint) → Start ss b h → b ≤ c → c ≤ flow_shift → Start ss c h
start_more ss b c h s l m = record {
  agree = s.agree;
  floor = s.floor;
  capped = s.capped;
  per_place = s.per_place;
  long = s.long;
  unmetered = λ k o e. (omega (arith, (s.unmetered k o e).0), omega (arith, (s.unmetered k o e).1));
  within = m;
}

-- Settled anew after a phase at step d: what is over rises by at most d for each stream.
module _ (ss : List Stream) (v : Solvable ss) (d b : ℕ) (st : State) (h : Sound ss d b st) (within : b ≤ flow_shift) where
  -- A sound state's potentials are a hint.
  pub again_start : Start ss b (as_hint st)
  again_start = record {
    agree = h.agreed;
    floor = h.floor;
    capped = h.capped;
    per_place = h.per_place;
    long = h.long;
    unmetered = h.sized;
    within = within;
  }

  near : (k : ℕ) → k < length ss → (get_or (ys ss v (as_hint st) b again_start) k 0 ≤ get_or st.flows k 0 + d) × (get_or st.flows k 0 ≤ get_or (ys ss v (as_hint st) b again_start) k 0 + d)
  near k l = go (stream_at ss k).metered refl
    where
      t : Stream
      t = stream_at ss k

      Y : ℕ
      Y = get_or (ys ss v (as_hint st) b again_start) k 0

      go : (m : Bool) → (stream_at ss k).metered ≡ m
          → (get_or (ys ss v (as_hint st) b again_start) k 0 ≤ get_or st.flows k 0 + d) × (get_or st.flows k 0 ≤ get_or (ys ss v (as_hint st) b again_start) k 0 + d)
      go true e =
          let o = settled_one ss v (as_hint st) b again_start k l in
          let w : 1 ≤ weight_of t = rw (weight_some t e) (v.weighed k l e) in (
            near_above d (weight_of t) (get_or st.flows k 0) Y (reading_of t) _ _ (low_of t) (high_of t) w (h.met k l) o.0 (h.inside k l) o.1,
            near_below d (weight_of t) (get_or st.flows k 0) Y (reading_of t) _ _ (low_of t) (high_of t) w (h.met k l) o.0 (h.inside k l) o.1,
          )
      go false e = let q = settled_free ss v (as_hint st) b again_start k e in (omega (arith, q), omega (arith, q))

  -- Settled there, little more is over than before.
  pub again_over : excess_sum (settled ss (as_hint st)).nets ≤ excess_sum st.nets + max_streams * d
  again_over =
      omega (
        arith,
        over_moved max_units ss (λ k. unshifted (get_or zs k 0)) v.plain.inside d (λ k. unshifted (get_or st.flows k 0)) moved,
        settled_over ss v (as_hint st) b again_start,
        before,
        mul-le-mul_right d v.plain.few,
      )
    where
      zs : List ℕ
      zs = ys ss v (as_hint st) b again_start

      moved : (k : ℕ) → k < length ss → Le (unshifted (get_or zs k 0)) (unshifted (get_or st.flows k 0) +ℤ pos d)
          × Le (unshifted (get_or st.flows k 0)) (unshifted (get_or zs k 0) +ℤ pos d)
      moved k l = (
        omega (arith, (near k l).0, unshifted_val (get_or zs k 0), unshifted_val (get_or st.flows k 0), plus_val (unshifted (get_or st.flows k 0)) (pos d)),
        omega (arith, (near k l).1, unshifted_val (get_or zs k 0), unshifted_val (get_or st.flows k 0), plus_val (unshifted (get_or zs k 0)) (pos d)),
      )

      before : over_to places (net ss st.flows) ≡ excess_sum st.nets
      before = sound_over ss d b st h

-- Nets of labels: what one stream makes of them, and all streams.
use mathlib.Core.Path.{◌≡◌, refl, sym, ◌∙◌, ap, ap₂}
use mathlib.Core.Bool.{Bool, true, false, not}
use mathlib.Core.List.{List}
use lib.IntN.{ℤ, pos, neg_ℤ, nat_abs, ◌+ℤ◌, ◌-ℤ◌, +ℤ_assoc, +ℤ_idr}
use Prim.Native.Nat.{ℕ, zero, suc, ◌+◌, ◌*◌, ◌≤◌, ◌<◌}
use native.Mathlib.Nat.{mul-le-mul_right}
use native.Mathlib.Numerals.{add-one}
use native.Mathlib.Omega.{arith}
use native.Mathlib.Decide.{ℕ_discrete}
use lib.Dec.{eqb}
use lib.ListN.{length, get_or, set, length-set}
use lib.Seq.{get_or-set_same, get_or-set_other}
use mir.Syntax.{w64}
use mir.Val.{SFits, to_z, of_z}
use mir.ValLaws.{to_z-of_z}
use mathlib.Core.Logic.{◌↔◌}
use borrow.Author.Tests.{eq-eqb, ne_eqb, eqb-true}
use Rattle.num_bytes.specs.Choice.{pick}
use Rattle.num_bytes.proofs.Tests.{same_test}
use Rattle.plant_def.specs.declared.Stream.{Stream}
use Rattle.plant_def.specs.declared.Plant as Arrays
use Rattle.plant_def.specs.Limits.{places, max_streams}
use Rattle.plant_def.specs.Plants.{no_stream}
use Rattle.plant_def.specs.Within.{Accepted}
use Rattle.plant_def.specs.Says.{plant_of}
use Rattle.plant_def.proofs.Arrayed.{all_listed, listed_at, within_of}
use Rattle.flow_def.specs.declared.Class.{Class}
use Rattle.flow_def.specs.declared.Class.TheVariants.{Adjusted}
use Rattle.flow_def.specs.Classes.{class_of}
use Rattle.flow_def.specs.Calls.{classes_of}
use Rattle.flow_def.specs.Flows.{stream_at, amount_at}
use Rattle.num_bytes.specs.Sums.{sum}
use Rattle.flow_def.specs.Chains.{Counting}
use Rattle.flow_def.specs.Labels.{labels_of}
use Rattle.flow_def.proofs.Labels.{label_low}
use Rattle.flow_def.proofs.Nets.{inside}
use Rattle.num_bytes.proofs.Lists.{values_at}
use Rattle.num_bytes.proofs.Integers.{up_neg, dn_neg, size_val, size_none, canon, Z_diff, plus_size}
use Rattle.flow_def.proofs.Certified.{every_all, every_at}
use Rattle.solve_def.specs.Sizes.{flow_shift}
use Rattle.sheet_def.specs.Calls.{AllSmall}
use Rattle.sheet_def.specs.Sheets.{known}
use Rattle.foreign_def.specs.Test.{brought_by, net_by, ArePlaces, Nets, Moved, Roomy, nets_fit}
use Rattle.sheet_cost.proofs.Costing.{size_fits}
use Rattle.foreign_stream.proofs.Fitting.{coded_fits, coded_is}

-- A store of one element.
put : (xs : List ℤ) (a : ℕ) (x y : ℤ) → a < length xs → y ≡ get_or xs a (pos 0) +ℤ x → (v : ℕ) → get_or (set xs a y) v (pos 0) ≡ get_or xs v (pos 0) +ℤ pick (eqb a v) x (pos 0)
put xs a x y l e v = elim (ℕ_discrete v a) [
  | yes q ↦ rw (q, eq-eqb a a refl) (get_or-set_same xs a y (pos 0) l ∙ e)
  | no q ↦ rw (ne_eqb a v (λ r. q (sym r))) (get_or-set_other xs a v y (pos 0) q ∙ sym (+ℤ_idr (get_or xs v (pos 0))))
]

neg_size : (x : ℤ) → nat_abs (neg_ℤ x) ≡ nat_abs x
neg_size x = omega (arith, size_val (neg_ℤ x), size_val x, up_neg x, dn_neg x)

picked_size : (b : Bool) (x : ℤ) → nat_abs (pick b x (pos 0)) ≤ nat_abs x
picked_size true x = omega arith
picked_size false x = omega arith

module _ (nets : List ℤ) (t f : ℕ) (x : ℤ) (long : length nets ≡ places) (lt : t < places) (lf : f < places) (room : Roomy x nets) (fx : SFits w64 x) where
  element : (v : ℕ) → v < places → SFits w64 (get_or nets v (pos 0))
  element v l = size_fits (get_or nets v (pos 0)) (omega (arith, room v l))

  whole : SFits w64 (get_or nets t (pos 0) +ℤ x)
  whole = size_fits (get_or nets t (pos 0) +ℤ x) (omega (arith, plus_size (get_or nets t (pos 0)) x, room t lt))

  -- The sum at the far end fits.
  pub add_fits : SFits w64 (to_z w64 (of_z w64 (get_or nets t (pos 0))) +ℤ to_z w64 (of_z w64 x))
  add_fits = rw (to_z-of_z w64 (get_or nets t (pos 0)) (element t lt), to_z-of_z w64 x fx) whole

  -- The element stored first.
  first : ℤ
  first = to_z w64 (of_z w64 (to_z w64 (of_z w64 (get_or nets t (pos 0))) +ℤ to_z w64 (of_z w64 x)))

  first_is : first ≡ get_or nets t (pos 0) +ℤ x
  unfolding first
  first_is = rw (to_z-of_z w64 (get_or nets t (pos 0)) (element t lt), to_z-of_z w64 x fx) (to_z-of_z w64 (get_or nets t (pos 0) +ℤ x) whole)

  abbrev once : List ℤ
  once = set nets t (to_z w64 (of_z w64 (to_z w64 (of_z w64 (get_or nets t (pos 0))) +ℤ to_z w64 (of_z w64 x))))

  once_at : (v : ℕ) → get_or once v (pos 0) ≡ get_or nets v (pos 0) +ℤ pick (eqb t v) x (pos 0)
  unfolding first
  once_at v = put nets t x first (rw long lt) first_is v

  once_size : (v : ℕ) → v < places → nat_abs (get_or once v (pos 0)) ≤ nat_abs (get_or nets v (pos 0)) + nat_abs x
  once_size v l = rw (once_at v) (omega (arith, plus_size (get_or nets v (pos 0)) (pick (eqb t v) x (pos 0)), picked_size (eqb t v) x))

  again : SFits w64 (get_or once f (pos 0) -ℤ x)
  again = size_fits (get_or once f (pos 0) -ℤ x) (omega (arith, plus_size (get_or once f (pos 0)) (neg_ℤ x), neg_size x, once_size f lf, room f lf))

  element_2 : SFits w64 (get_or once f (pos 0))
  element_2 = size_fits (get_or once f (pos 0)) (omega (arith, once_size f lf, room f lf))

  -- The difference at the near end fits.
  pub sub_fits : SFits w64 (to_z w64 (of_z w64 (get_or once f (pos 0))) -ℤ to_z w64 (of_z w64 x))
  sub_fits = coded_fits (get_or once f (pos 0)) x element_2 fx again

  second_is : to_z w64 (of_z w64 (to_z w64 (of_z w64 (get_or once f (pos 0))) -ℤ to_z w64 (of_z w64 x))) ≡ get_or once f (pos 0) -ℤ x
  second_is = coded_is (get_or once f (pos 0)) x element_2 fx again

  once_long : length once ≡ places
  once_long = length-set nets t _ ∙ long

  -- What comes of both.
  pub carried : Moved t f x nets (set once f (to_z w64 (of_z w64 (to_z w64 (of_z w64 (get_or once f (pos 0))) -ℤ to_z w64 (of_z w64 x)))))
  carried = record {
    long = length-set once f _ ∙ length-set nets t _;
    each = λ v l. put once f (neg_ℤ x) _ (rw once_long lf) second_is v
        ∙ ap (λ (z : ℤ). z +ℤ pick (eqb f v) (neg_ℤ x) (pos 0)) (once_at v)
        ∙ +ℤ_assoc (get_or nets v (pos 0)) (pick (eqb t v) x (pos 0)) (pick (eqb f v) (neg_ℤ x) (pos 0));
  }

-- A sum of numbers of a size.
sum_size : (n b : ℕ) (f : ℕ → ℤ) → ((k : ℕ) → k < n → nat_abs (f k) ≤ b) → nat_abs (sum n f) ≤ n * b
sum_size zero b f h = omega arith
sum_size (suc n) b f h = omega (arith, plus_size (f n) (sum n f), h n (omega arith), sum_size n b f (λ k l. h k (omega arith)))

swap : (x y : ℤ) → x +ℤ y ≡ y +ℤ x
swap x y = rw (← canon x, ← canon y) (simp Z_diff (omega arith))

-- The nets by the first i streams.
module _ (p : Arrays.Plant) (a : Accepted p) (labels : List ℕ) (flows : List ℤ) where
  -- What a stream brings to a label, less what it takes from it.
  abbrev pub brought_at : ℕ → ℕ → ℤ
  brought_at v k = brought_by labels v (stream_at (plant_of p).streams k) (amount_at flows k)

  -- The nets of the first i streams, label by label.
  pub record Tallied (nets : List ℤ) (i : ℕ) : Type 0 where
    pub long : length nets ≡ places
    pub each : (v : ℕ) → v < places → get_or nets v (pos 0) ≡ sum i (brought_at v)

  -- None yet.
  pub tallied_none : (nets : List ℤ) → length nets ≡ places → ((v : ℕ) → v < places → get_or nets v (pos 0) ≡ pos 0) → Tallied nets 0
  tallied_none nets l h = record { long = l; each = h }

  module _ (small : AllSmall flows) (nets : List ℤ) (i : ℕ) (l : i < p.count) (t : Tallied nets i) where
    low : i < max_streams
    low = omega (arith, a.within.few_streams)

    brought_size : (v k : ℕ) → k < max_streams → nat_abs (brought_at v k) ≤ 2 * flow_shift
    brought_size v k b =
        let s = stream_at (plant_of p).streams k in
        omega (
          arith,
          plus_size (pick (eqb (get_or labels s.to 0) v) (amount_at flows k) (pos 0)) (pick (eqb (get_or labels s.from 0) v) (neg_ℤ (amount_at flows k)) (pos 0)),
          picked_size (eqb (get_or labels s.to 0) v) (amount_at flows k),
          picked_size (eqb (get_or labels s.from 0) v) (neg_ℤ (amount_at flows k)),
          neg_size (amount_at flows k),
          small k b,
        )

    -- There is room for one more.
    pub roomy : Roomy (amount_at flows i) nets
    roomy v b =
        rw (t.each v b)
        (omega (
          arith,
          sum_size i (2 * flow_shift) (brought_at v) (λ k m. brought_size v k (omega (arith, low))),
          mul-le-mul_right (2 * flow_shift) under,
          small i low,
        ))
      where
        under : i ≤ max_streams
        under = omega (arith, low)

    -- One stream more.
    pub tallied_more : (nets' : List ℤ) (x : ℤ) → x ≡ amount_at flows i → let s = get_or p.streams i no_stream in
        Moved (get_or labels s.to 0) (get_or labels s.from 0) x nets nets' → Tallied nets' (i + 1)
    tallied_more nets' x e m = record {
      long = m.long ∙ t.long;
      each = λ v b. rw (add-one i)
          (m.each v b
          ∙ ap₂ ◌+ℤ◌ (t.each v b) (ap₂ (λ (s : Stream) (z : ℤ). brought_by labels v s z) (sym (listed_at p a i l)) e)
          ∙ swap (sum i (brought_at v)) (brought_at v i));
    }

  -- All streams.
  pub tallied_all : (nets : List ℤ) (i : ℕ) → i ≡ p.count → Tallied nets i → Nets labels (plant_of p).streams (amount_at flows) nets
  tallied_all nets i e t v b = t.each v b ∙ ap (λ (n : ℕ). sum n (brought_at v)) (e ∙ sym (all_listed p a))

-- The class of a stream, in the array.
pub withheld_at : (p : Arrays.Plant) → Accepted p → (classes : List Class) → classes ≡ classes_of (plant_of p) → (k : ℕ) → k < p.count
    → not (known (get_or classes k Adjusted)) ≡ not (known (class_of (plant_of p) k))
withheld_at p a classes e k l =
    let b : k < max_streams = omega (arith, a.within.few_streams) in
    ap (λ (c : Class). not (known c)) (ap (λ (cs : List Class). get_or cs k Adjusted) e ∙ values_at (class_of (plant_of p)) Adjusted max_streams k b)

-- All nets.
pub label_places : (p : Arrays.Plant) → Accepted p → (counts : Counting) (labels : List ℕ) → labels ≡ labels_of counts (plant_of p) → ArePlaces labels
label_places p a counts labels e u l =
    let w = within_of p a in
    rw e (omega (arith, label_low counts (plant_of p) w.few_units (inside (plant_of p) w) u l))

module _ (ss : List Stream) (x : ℕ → ℤ) (labels given : List ℕ) (e : labels ≡ given) (nets : List ℤ) (h : Nets labels ss x nets) where
  at : (v : ℕ) → v < places → get_or nets v (pos 0) ≡ net_by given ss x v
  at v l = h v l ∙ ap (λ (ls : List ℕ). net_by ls ss x v) e

  -- The test of all nets.
  pub nets_tested : (b : Bool) → length nets ≡ places → (b ≡ true ↔ ((v : ℕ) → v < length nets → get_or nets v (pos 0) ≡ pos 0)) → b ≡ nets_fit given ss x
  unfolding nets_fit
  nets_tested b l t = same_test b _
      (λ y. every_all places none (λ v m. eq-eqb (nat_abs (net_by given ss x v)) 0 (ap nat_abs (sym (at v m) ∙ t.0 y v (rw l m)))))
      (λ y. t.1 (λ v m. at v (omega (arith, l, m)) ∙ size_none (net_by given ss x v) (eqb-true _ 0 (every_at places none y v (omega (arith, l, m))))))
    where
      none : ℕ → Bool
      none v = eqb (nat_abs (net_by given ss x v)) 0

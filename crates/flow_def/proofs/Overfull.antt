-- Where a set of places must take in more than it can let out, no balanced flow over any denominator is in range.
use mathlib.Core.Path.{◌≡◌, refl, ◌∙◌, ap}
use mathlib.Core.Bool.{Bool, true, false, not, ◌&&◌, ◌||◌}
use mathlib.Core.List.{List, [], ◌∷◌}
use lib.IntN.{ℤ, pos, neg_ℤ, ◌+ℤ◌, ◌*ℤ◌, *ℤ-zero}
use Prim.Native.Nat.{ℕ, ◌≤◌, ◌<◌}
use native.Mathlib.Nat.{le_of_mul-le-mul_left}
use native.Mathlib.Omega.{arith}
use lib.ListN.{length}
use Rattle.num_bytes.specs.Choice.{pick}
use Rattle.num_bytes.proofs.Tests.{by_cases}
use Rattle.plant_def.specs.declared.Stream.{Stream}
use Rattle.plant_def.specs.Plants.{Plant}
use Rattle.plant_def.specs.Within.{Within}
use Rattle.flow_def.specs.Flows.{amount_at, allowed_over}
use Rattle.flow_def.specs.Overfull.{marks, enters, leaves, lows_in, highs_out, Overfull}
use Rattle.num_bytes.proofs.Integers.{Le, lt_z_lt, plus_val, up_neg, dn_neg, up_times, dn_times}
use Rattle.num_bytes.proofs.Sums.{sum, sum_same, sum_plus, sum_times, sum_le}
use Rattle.flow_def.proofs.Nets.{count_of, stream_of, crossing, no_crossing, sum_listed, balanced_size}
use Rattle.flow_def.proofs.Ranges.{balanced_of, range_of, range_says}

-- What stream s, carrying y from l to h, brings into a set less what it takes out: no less than l where it enters, and no less than
-- h taken out where it leaves.
edge : (c : ℕ → Bool) (s : Stream) (l h y : ℤ) → (enters c s || leaves c s ≡ true → Le l y × Le y h)
    → Le (pick (enters c s) l (pos 0)) (crossing c s y +ℤ pick (leaves c s) h (pos 0))
edge c s l h y = go (c s.to) (c s.from)
  where
    go : (t f : Bool) → ((t && not f) || (f && not t) ≡ true → Le l y × Le y h)
        → Le (pick (t && not f) l (pos 0)) (pick t (pick f (pos 0) y) (pick f (neg_ℤ y) (pos 0)) +ℤ pick (f && not t) h (pos 0))
    go true true b = omega arith
    go true false b = omega (arith, (b refl).0, plus_val y (pos 0))
    go false true b = omega (arith, (b refl).1, plus_val (neg_ℤ y) h, up_neg y, dn_neg y)
    go false false b = omega arith

pick_times : (d : ℕ) (b : Bool) (z : ℤ) → pos d *ℤ pick b z (pos 0) ≡ pick b (pos d *ℤ z) (pos 0)
pick_times d true z = refl
pick_times d false z = *ℤ-zero (pos d)

over_le : (d : ℕ) (a b : ℤ) → 1 ≤ d → Le (pos d *ℤ a) (pos d *ℤ b) → Le a b
over_le d a b l h = le_of_mul-le-mul_left {k = d} (omega (arith, up_times (pos d) a, dn_times (pos d) a, up_times (pos d) b, dn_times (pos d) b)) l

module _ (p : Plant) (w : Within p) (ms : List Bool) (o : Overfull p ms) (d : ℕ) (ys : List ℤ) (a : allowed_over d p ys ≡ true) where
  abbrev n : ℕ
  n = count_of p

  abbrev c : ℕ → Bool
  c = marks ms

  abbrev s : ℕ → Stream
  s = stream_of p

  abbrev y : ℕ → ℤ
  y = amount_at ys

  size : length ys ≡ count_of p
  size = balanced_size p ys (balanced_of d p ys a)

  -- What each stream must bring in and can take out, over d.
  abbrev inward : ℕ → ℤ
  inward k = pick (enters c (s k)) (pos d *ℤ (s k).low) (pos 0)

  abbrev outward : ℕ → ℤ
  outward k = pick (leaves c (s k)) (pos d *ℤ (s k).high) (pos 0)

  abbrev across : ℕ → ℤ
  across k = crossing c (s k) (y k)

  -- One end of the range of each stream that passes a test, summed up.
  ends_sum : (test : Stream → Bool) (end : Stream → ℤ) (ends : List Stream → ℤ) → ends [] ≡ pos 0
      → ((s : Stream) (ss : List Stream) → ends (s ∷ ss) ≡ pick (test s) (end s) (pos 0) +ℤ ends ss)
      → pos d *ℤ ends p.streams ≡ sum n (λ k. pick (test (s k)) (pos d *ℤ end (s k)) (pos 0))
  ends_sum test end ends none more =
      ap (λ (z : ℤ). pos d *ℤ z)
      (sum_listed (λ s x. pick (test s) (end s) (pos 0)) (λ ss xs. ends ss) (λ xs. none) (λ s ss x xs. more s ss) p.streams ys size)
      ∙ sum_times n (pos d) (λ k. pick (test (s k)) (end (s k)) (pos 0))
      ∙ sum_same n _ _ (λ k l. pick_times d (test (s k)) (end (s k)))

  -- Their sums are d times the lows in and the highs out.
  lows_sum : pos d *ℤ lows_in c p.streams ≡ sum n inward
  lows_sum = ends_sum (enters c) (λ s. s.low) (lows_in c) refl (λ s ss. refl)

  highs_sum : pos d *ℤ highs_out c p.streams ≡ sum n outward
  highs_sum = ends_sum (leaves c) (λ s. s.high) (highs_out c) refl (λ s ss. refl)

  each : (k : ℕ) → k < n → Le (inward k) (across k +ℤ outward k)
  each k l = edge c (s k) (pos d *ℤ (s k).low) (pos d *ℤ (s k).high) (y k) (λ t. range_says d (s k) (y k) (range_of d p ys a k l) (o.bounded k l t))

  -- A balanced flow in range takes in no more than it can let out.
  no_more : Le (pos d *ℤ lows_in c p.streams) (pos d *ℤ highs_out c p.streams)
  no_more =
      rw (lows_sum, highs_sum)
      (omega (
        arith,
        rw (sum_plus n across outward, no_crossing p w ys (balanced_of d p ys a) c) at (sum_le n inward (λ k. across k +ℤ outward k) each),
        plus_val (pos 0) (sum n outward),
      ))

  never : 1 ≤ d → ⊥
  never l = omega (arith, over_le d (lows_in c p.streams) (highs_out c p.streams) l no_more, lt_z_lt (highs_out c p.streams) (lows_in c p.streams) o.more)

-- With such a set no balanced flow is in range.
pub overfull_none : (p : Plant) → Within p → (ms : List Bool) → Overfull p ms → (d : ℕ) (ys : List ℤ) → 1 ≤ d → allowed_over d p ys ≡ false
overfull_none p w ms o d ys l = by_cases (allowed_over d p ys) (λ a. absurd (never p w ms o d ys a l)) (λ e. e)

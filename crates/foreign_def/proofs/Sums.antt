-- Known flows in and out of a set of places, as sums over the streams.
use mathlib.Core.Path.{◌≡◌, refl, sym, ◌∙◌, ap, ap₂}
use mathlib.Core.Bool.{Bool, true, false, ◌&&◌}
use mathlib.Core.List.{List, [], ◌∷◌}
use lib.IntN.{ℤ, pos, neg_ℤ, ◌+ℤ◌, ◌-ℤ◌, +ℤ_idl, +ℤ_idr, +ℤ_invr, neg_ℤ-+ℤ}
use Prim.Native.Nat.{ℕ, zero, suc, ◌<◌}
use native.Mathlib.Omega.{arith}
use lib.ListN.{length, get_or}
use Rattle.num_bytes.specs.Choice.{pick}
use Rattle.plant_def.specs.declared.Stream.{Stream}
use Rattle.plant_def.specs.Plants.{Plant}
use Rattle.flow_def.specs.Flows.{stream_at}
use Rattle.flow_def.specs.Classes.{class_of}
use Rattle.num_bytes.proofs.Sums.{sum, sum_same, sum_plus, sum_front}
use Rattle.flow_def.proofs.Nets.{count_of, stream_of, crossing}
use Rattle.sheet_def.specs.declared.Entry.{Entry}
use Rattle.sheet_def.specs.Sheets.{SheetParts, known}
use Rattle.sheet_def.specs.Kept.{blank}
use Rattle.sheet_def.specs.Sentences.{class_on, number_on}
use Rattle.foreign_def.specs.Passing.{known_sum, sum_in, sum_out}
use Rattle.foreign_def.specs.Test.{shown_at}

-- A sum by recursion over streams and entries is a sum over the streams' numbers.
known_is : (takes : Stream → Bool) (ss : List Stream) (es : List Entry) → length es ≡ length ss
    → known_sum takes ss es ≡ sum (length ss) (λ k. pick (known (get_or es k blank).class && takes (stream_at ss k)) (get_or es k blank).flow (pos 0))
known_is takes [] es e = refl
known_is takes (s ∷ ss) [] e = absurd (omega arith)
known_is takes (s ∷ ss) (x ∷ es) e =
    ap (λ (z : ℤ). pick (known x.class && takes s) x.flow (pos 0) +ℤ z) (known_is takes ss es (omega arith))
    ∙ sym (sum_front (length ss) (λ k. pick (known (get_or (x ∷ es) k blank).class && takes (stream_at (s ∷ ss) k)) (get_or (x ∷ es) k blank).flow (pos 0)))

sum_neg : (n : ℕ) (f : ℕ → ℤ) → sum n (λ k. neg_ℤ (f k)) ≡ neg_ℤ (sum n f)
sum_neg zero f = refl
sum_neg (suc n) f = ap (λ (z : ℤ). neg_ℤ (f n) +ℤ z) (sum_neg n f) ∙ sym (neg_ℤ-+ℤ (f n) (sum n f))

-- What a stream brings in less what it takes out.
both_ways : (t f b : Bool) (x : ℤ) → pick t (pick f (pos 0) (pick b x (pos 0))) (pick f (neg_ℤ (pick b x (pos 0))) (pos 0))
    ≡ pick (b && t) x (pos 0) -ℤ pick (b && f) x (pos 0)
both_ways true true true x = sym (+ℤ_invr x)
both_ways true false true x = sym (+ℤ_idr x)
both_ways false true true x = sym (+ℤ_idl (neg_ℤ x))
both_ways false false true x = refl
both_ways true true false x = refl
both_ways true false false x = refl
both_ways false true false x = refl
both_ways false false false x = refl

module _ (p : Plant) (sheet : SheetParts) (long : length sheet.streams ≡ length p.streams)
    (ours : (k : ℕ) → k < length p.streams → class_on sheet k ≡ class_of p k) (c : ℕ → Bool) where
  abbrev inward : ℕ → ℤ
  inward k = pick (known (class_on sheet k) && c (stream_of p k).to) (number_on sheet k) (pos 0)

  abbrev outward : ℕ → ℤ
  outward k = pick (known (class_on sheet k) && c (stream_of p k).from) (number_on sheet k) (pos 0)

  in_is : sum_in c p.streams sheet.streams ≡ sum (count_of p) inward
  in_is = known_is (λ s. c s.to) p.streams sheet.streams long

  out_is : sum_out c p.streams sheet.streams ≡ sum (count_of p) outward
  out_is = known_is (λ s. c s.from) p.streams sheet.streams long

  -- What crosses the border of the set.
  pub crossing_sums : sum (count_of p) (λ k. crossing c (stream_of p k) (shown_at p sheet k)) ≡ sum_in c p.streams sheet.streams -ℤ sum_out c p.streams sheet.streams
  crossing_sums =
      sum_same (count_of p) _ (λ k. inward k -ℤ outward k) each
      ∙ sum_plus (count_of p) inward (λ k. neg_ℤ (outward k))
      ∙ ap₂ ◌+ℤ◌ (sym in_is) (sum_neg (count_of p) outward ∙ ap neg_ℤ (sym out_is))
    where
      each : (k : ℕ) → k < count_of p → crossing c (stream_of p k) (shown_at p sheet k) ≡ inward k -ℤ outward k
      each k l = rw (ours k l) (both_ways (c (stream_of p k).to) (c (stream_of p k).from) (known (class_of p k)) (number_on sheet k))

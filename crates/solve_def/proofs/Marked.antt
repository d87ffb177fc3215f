-- A set of places that passes the test on held numbers is overfull, its marks cut to the plant's places.
use mathlib.Core.Path.{◌≡◌, refl, sym, ◌∙◌, ap}
use mathlib.Core.Bool.{Bool, true, false, not, ◌&&◌, ◌||◌, false≢true}
use mathlib.Core.List.{List}
use lib.IntN.{ℤ, pos, neg_ℤ, ◌+ℤ◌, +ℤ_idr}
use Prim.Native.Nat.{ℕ, zero, suc, ◌*◌, ◌≤◌, ◌<◌}
use native.Mathlib.Omega.{arith}
use native.Mathlib.Decide.{ℕ_discrete, dec_le}
use borrow.Author.Tests.{ltb-true, le-leb, lt-leb}
use lib.Dec.{ltb, leb}
use lib.ListN.{length, get_or, get_or-eq_default}
use Rattle.num_bytes.specs.Choice.{pick}
use Rattle.num_bytes.proofs.Tests.{by_cases, and_left, and_right}
use Rattle.plant_def.specs.declared.Stream.{Stream}
use Rattle.plant_def.specs.Limits.{places}
use Rattle.plant_def.specs.Plants.{Plant, limited}
use Rattle.plant_def.specs.Within.{Within}
use Rattle.flow_def.specs.Flows.{stream_at}
use Rattle.flow_def.specs.Overfull.{marks, enters, leaves, lows_in, highs_out, Overfull}
use Rattle.num_bytes.proofs.Integers.{up, dn, Lt, same, plus_val, up_neg, dn_neg, lt_lt_z}
use Rattle.num_bytes.proofs.Sums.{sum, sum_same, sum_plus}
use Rattle.flow_def.proofs.Nets.{sum_listed, listed, listed_size}
use Rattle.num_bytes.proofs.Lists.{values_at, values_long}
use Rattle.solve_def.specs.Sizes.{flow_shift}
use Rattle.solve_def.specs.Held.{unshifted, low_of, high_of}
use Rattle.solve_def.specs.Full.{may_cross, bounded_to, pressed_to, overfull}
use Rattle.solve_def.specs.Model.{masked}
use Rattle.solve_def.proofs.Bounds.{low_is, high_is, low_free}
use Rattle.solve_def.proofs.Streams.{Solvable}
use Rattle.solve_def.proofs.Edges.{edge}
use Rattle.solve_def.proofs.Fulls.{pressed_sum}
use Rattle.solve_def.proofs.Certify.{held_right}

-- Each stream may stand where it stands.
bounded_at : (ss : List Stream) (ms : List Bool) (n k : ℕ) → bounded_to ss ms n ≡ true → k < n
    → may_cross (get_or ms (stream_at ss k).from false) (get_or ms (stream_at ss k).to false) (low_of (stream_at ss k)) ≡ true
unfolding bounded_to
bounded_at ss ms zero k e l = absurd (omega arith)
bounded_at ss ms (suc n) k e l = elim (ℕ_discrete k n) [
  | yes q ↦ rw q (and_left may (bounded_to ss ms n) e)
  | no q ↦ bounded_at ss ms n k (and_right may (bounded_to ss ms n) e) (omega arith)
]
  where
    may : Bool
    may = may_cross (get_or ms (stream_at ss n).from false) (get_or ms (stream_at ss n).to false) (low_of (stream_at ss n))

-- One that crosses has a range.
crosses_ranged : (s : Stream) (a b : Bool) → may_cross a b (low_of s) ≡ true → (b && not a) || (a && not b) ≡ true → limited s ≡ true
crosses_ranged s a b m c = go a b m c
  where
    some : ltb 0 (low_of s) ≡ true → limited s ≡ true
    some t = by_cases (limited s) (λ e. e) (λ e. absurd (omega (arith, ltb-true 0 (low_of s) t, low_free s e)))

    go : (a b : Bool) → may_cross a b (low_of s) ≡ true → (b && not a) || (a && not b) ≡ true → limited s ≡ true
    go true true m c = absurd (false≢true c)
    go false false m c = absurd (false≢true c)
    go true false m c = some m
    go false true m c = some m

-- Its low in, or its high out, by what it must press into the set.
pressed_parts : (low high l h : ℤ) (a b : Bool) → ((b && not a) || (a && not b) ≡ true → (l ≡ low) × (h ≡ high))
    → pick (b && not a) low (pos 0) ≡ pick b (pick a (pos 0) l) (pick a (neg_ℤ h) (pos 0)) +ℤ pick (a && not b) high (pos 0)
pressed_parts low high l h true true e = refl
pressed_parts low high l h false false e = refl
pressed_parts low high l h false true e = sym (e refl).0 ∙ sym (+ℤ_idr l)
pressed_parts low high l h true false e =
    same (pos 0) (neg_ℤ h +ℤ high) (omega (arith, plus_val (neg_ℤ h) high, up_neg h, dn_neg h, ap up (e refl).1, ap dn (e refl).1))

-- As many marks as places.
pub masked_long : (n : ℕ) (ms : List Bool) → length (masked n ms) ≡ places
unfolding masked
masked_long n ms = values_long (λ u. get_or ms u false && leb u n) places

module _ (q : Plant) (w : Within q) (v : Solvable q.streams) (ms : List Bool) (e : overfull q.streams ms ≡ true) where
  abbrev ss : List Stream
  ss = q.streams

  abbrev c : ℕ → Bool
  c = marks (masked q.units ms)

  inner : (u : ℕ) → u ≤ q.units → marks (masked q.units ms) u ≡ get_or ms u false
  unfolding masked
  inner u l = values_at (λ u. get_or ms u false && leb u q.units) false places u (omega (arith, w.few_units)) ∙ go (get_or ms u false)
    where
      go : (b : Bool) → b && leb u q.units ≡ b
      go true = le-leb u q.units l
      go false = refl

  outer : (u : ℕ) → q.units < u → marks (masked q.units ms) u ≡ false
  unfolding masked
  outer u l = elim (dec_le places u) [
    | yes z ↦ get_or-eq_default (masked q.units ms) false {n = u} (rw (masked_long q.units ms) z)
    | no z ↦ values_at (λ u. get_or ms u false && leb u q.units) false places u (omega arith) ∙ go (get_or ms u false)
  ]
    where
      go : (b : Bool) → b && leb u q.units ≡ false
      go true = lt-leb u q.units l
      go false = refl

  abbrev a : ℕ → Bool
  a k = get_or ms (stream_at q.streams k).from false

  abbrev b : ℕ → Bool
  b k = get_or ms (stream_at q.streams k).to false

  from_is : (k : ℕ) → k < length ss → c (stream_at ss k).from ≡ a k
  from_is k l = inner (stream_at ss k).from (w.each k l).from_in

  to_is : (k : ℕ) → k < length ss → c (stream_at ss k).to ≡ b k
  to_is k l = inner (stream_at ss k).to (w.each k l).to_in

  ranged_across : (k : ℕ) → k < length ss → (b k && not (a k)) || (a k && not (b k)) ≡ true → limited (stream_at ss k) ≡ true
  ranged_across k l t = crosses_ranged (stream_at ss k) (a k) (b k) (bounded_at ss ms (length ss) k (and_left (bounded_to ss ms (length ss)) _ e) l) t

  abbrev low_in : ℕ → ℤ
  low_in k = pick (enters c (stream_at ss k)) (stream_at ss k).low (pos 0)

  abbrev high_out : ℕ → ℤ
  high_out k = pick (leaves c (stream_at ss k)) (stream_at ss k).high (pos 0)

  abbrev must : ℕ → ℤ
  must k = edge (λ u. get_or ms u false) (stream_at ss k)

  parts_at : (k : ℕ) → k < length ss → low_in k ≡ must k +ℤ high_out k
  parts_at k l =
      rw (from_is k l, to_is k l) (pressed_parts (stream_at ss k).low (stream_at ss k).high (unshifted (low_of (stream_at ss k))) (unshifted (high_of (stream_at ss k))) (a k) (b k)
      (λ t. let m = ranged_across k l t in (
        ap unshifted (low_is (stream_at ss k) m) ∙ held_right (stream_at ss k).low (omega (arith, (w.each k l).low_in m)),
        ap unshifted (high_is (stream_at ss k) m) ∙ held_right (stream_at ss k).high (omega (arith, (w.each k l).high_in m)),
      )))

  lows_sum : lows_in c ss ≡ sum (length ss) low_in
  lows_sum =
      sum_listed (λ s x. pick (enters c s) s.low (pos 0)) (λ ss xs. lows_in c ss) (λ xs. refl) (λ s ss x xs. refl) ss (listed q (λ k. pos 0)) (listed_size q (λ k. pos 0))

  highs_sum : highs_out c ss ≡ sum (length ss) high_out
  highs_sum =
      sum_listed (λ s x. pick (leaves c s) s.high (pos 0)) (λ ss xs. highs_out c ss) (λ xs. refl) (λ s ss x xs. refl) ss (listed q (λ k. pos 0)) (listed_size q (λ k. pos 0))

  -- The marked places are overfull.
  pub overfull_says : Overfull q (masked q.units ms)
  overfull_says = record {
    long = masked_long q.units ms;
    placed = outer;
    bounded = λ k l t. ranged_across k l (rw (from_is k l, to_is k l) at t);
    more = lt_lt_z (highs_out c ss) (lows_in c ss) more;
  }
    where
      total : sum (length ss) low_in ≡ sum (length ss) must +ℤ sum (length ss) high_out
      total = sum_same (length ss) low_in (λ k. must k +ℤ high_out k) parts_at ∙ sum_plus (length ss) must high_out

      more : Lt (highs_out c ss) (lows_in c ss)
      more =
          rw (lows_sum, highs_sum, total)
          (omega (
            arith,
            pressed_sum ss v ms (length ss) (omega arith),
            ltb-true (length ss * flow_shift) (pressed_to ss ms (length ss)) (and_right (bounded_to ss ms (length ss)) _ e),
            plus_val (sum (length ss) must) (sum (length ss) high_out),
          ))

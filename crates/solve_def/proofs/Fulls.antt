-- The test of a set of places: what it says of their ranges, and that a stuck set passes it or has small nets.
use mathlib.Core.Path.{◌≡◌, refl, sym, ◌∙◌}
use mathlib.Core.Bool.{Bool, true, false, true≢false}
use mathlib.Core.List.{List}
use lib.IntN.{pos, neg_ℤ}
use Prim.Native.Nat.{ℕ, zero, suc, ◌+◌, ◌-◌, ◌*◌, ◌≤◌, ◌<◌}
use native.Mathlib.Omega.{arith}
use native.Mathlib.Decide.{ℕ_discrete}
use borrow.Author.Tests.{ltb-false, lt-ltb}
use lib.Dec.{ltb}
use lib.ListN.{length, get_or}
use Rattle.num_bytes.specs.Choice.{pick}
use Rattle.num_bytes.proofs.Tests.{by_cases, and_both}
use Rattle.plant_def.specs.declared.Stream.{Stream}
use Rattle.plant_def.specs.Limits.{max_units}
use Rattle.flow_def.specs.Flows.{stream_at}
use Rattle.num_bytes.proofs.Integers.{up, dn, plus_val, up_neg, dn_neg}
use Rattle.num_bytes.proofs.Sums.{sum}
use Rattle.solve_def.specs.Sizes.{flow_shift, most_flow, net_shift}
use Rattle.solve_def.specs.Held.{unshifted, low_of, high_of}
use Rattle.solve_def.specs.Full.{may_cross, pressed, bounded_to, pressed_to, overfull}
use Rattle.solve_def.proofs.Amounts.{net, unshifted_val}
use Rattle.solve_def.proofs.Least.{start_in, end_in}
use Rattle.solve_def.proofs.Hunting.{Stuck, stuck_edge}
use Rattle.solve_def.proofs.Streams.{Solvable}
use Rattle.solve_def.proofs.Edges.{edge, stuck_over}

-- What is pressed into a set, by value.
pressed_val : (s : Stream) (a b : Bool) → high_of s ≤ most_flow
    → up (pick b (pick a (pos 0) (unshifted (low_of s))) (pick a (neg_ℤ (unshifted (high_of s))) (pos 0))) + flow_shift
    ≡ pressed a b (low_of s) (high_of s) + dn (pick b (pick a (pos 0) (unshifted (low_of s))) (pick a (neg_ℤ (unshifted (high_of s))) (pos 0)))
pressed_val s true true m = omega arith
pressed_val s false false m = omega arith
pressed_val s false true m = omega (arith, unshifted_val (low_of s))
pressed_val s true false m = omega (arith, unshifted_val (high_of s), up_neg (unshifted (high_of s)), dn_neg (unshifted (high_of s)))

module _ (ss : List Stream) (v : Solvable ss) (ms : List Bool) where
  abbrev within : ℕ → Bool
  within u = get_or ms u false

  -- What the first n streams press into the set, as integers.
  pub pressed_sum : (n : ℕ) → n ≤ length ss
      → up (sum n (λ k. edge within (stream_at ss k))) + n * flow_shift ≡ pressed_to ss ms n + dn (sum n (λ k. edge within (stream_at ss k)))
  unfolding pressed_to
  pressed_sum zero l = refl
  pressed_sum (suc n) l =
      omega (
        arith,
        pressed_sum n (omega arith),
        pressed_val (stream_at ss n) (within (stream_at ss n).from) (within (stream_at ss n).to) (v.ranged n (omega arith)).most,
        plus_val (edge within (stream_at ss n)) (sum n (λ k. edge within (stream_at ss k))),
      )

-- A stream without a range does not stand across the edge of a stuck set, unless its amount is near the ends of what can be held.
shut_ranged : (d : ℕ) (s : Stream) (x : ℕ) (a b : Bool) → (low_of s ≡ 0 → high_of s ≡ most_flow) → d ≤ x → x + d ≤ most_flow
    → ((a ≡ true → b ≡ false → high_of s < x + d) × (a ≡ false → b ≡ true → x < low_of s + d)) → may_cross a b (low_of s) ≡ true
shut_ranged d s x true true r l m h = refl
shut_ranged d s x false false r l m h = refl
shut_ranged d s x true false r l m h = elim (ℕ_discrete (low_of s) 0) [
  | yes e ↦ absurd (omega (arith, h.0 refl refl, r e))
  | no e ↦ lt-ltb 0 (low_of s) (omega arith)
]
shut_ranged d s x false true r l m h = elim (ℕ_discrete (low_of s) 0) [
  | yes e ↦ absurd (omega (arith, h.1 refl refl, e))
  | no e ↦ lt-ltb 0 (low_of s) (omega arith)
]

module _ (ss : List Stream) (v : Solvable ss) (xs es : List ℕ) (d root : ℕ) (ms : List Bool) (l1 : 1 ≤ d) (near : root ≤ max_units)
    (room : (k : ℕ) → k < length ss → (d ≤ get_or xs k 0) × (get_or xs k 0 + d ≤ most_flow))
    (nets : (u : ℕ) → u ≤ max_units → up (net ss xs u) + net_shift ≡ get_or es u 0 + dn (net ss xs u)) (h : Stuck max_units ss xs es d root ms) where
  stuck_bounded : (n : ℕ) → n ≤ length ss → bounded_to ss ms n ≡ true
  unfolding bounded_to
  stuck_bounded zero l = refl
  stuck_bounded (suc n) l =
      and_both _ _
      (shut_ranged d (stream_at ss n) (get_or xs n 0) (start_in ss ms n) (end_in ss ms n) (v.ranged n (omega arith)).wide (room n (omega arith)).0 (room n (omega arith)).1
      (stuck_edge max_units ss xs es d root ms h n (omega arith)))
      (stuck_bounded n (omega arith))

  -- Where it is not overfull, its root has no more over than d - 1 for each stream; so at step 1 it is.
  pub stuck_small : overfull ss ms ≡ false → get_or es root 0 ≤ net_shift + length ss * (d - 1)
  stuck_small fits =
      omega (
        arith,
        stuck_over max_units ss xs es d root ms l1 v.plain.inside near nets h,
        pressed_sum ss v ms (length ss) (omega arith),
        nets root near,
        little,
      )
    where
      little : pressed_to ss ms (length ss) ≤ length ss * flow_shift
      little = by_cases (ltb (length ss * flow_shift) (pressed_to ss ms (length ss)))
          (λ e. absurd (true≢false (sym (and_both (bounded_to ss ms (length ss)) _ (stuck_bounded (length ss) (omega arith)) e) ∙ fits)))
          (λ e. ltb-false (length ss * flow_shift) (pressed_to ss ms (length ss)) e)

-- A set of places that no stream with room leaves: its nets in sum, by what must come into it and what can leave it.
use mathlib.Core.Path.{◌≡◌, refl, ap}
use mathlib.Core.Bool.{Bool, true, false}
use mathlib.Core.List.{List}
use mathlib.Core.Logic.{⊎_elim}
use lib.IntN.{ℤ, pos, neg_ℤ}
use Prim.Native.Nat.{ℕ, zero, suc, ◌+◌, ◌-◌, ◌*◌, ◌≤◌, ◌<◌}
use native.Mathlib.Omega.{arith}
use lib.ListN.{length, get_or}
use Rattle.num_bytes.specs.Choice.{pick}
use Rattle.num_bytes.proofs.Tests.{by_cases}
use Rattle.plant_def.specs.declared.Stream.{Stream}
use Rattle.flow_def.specs.Flows.{stream_at}
use Rattle.num_bytes.proofs.Integers.{up, dn, parts, plus_val, up_neg, dn_neg}
use Rattle.num_bytes.proofs.Sums.{sum}
use Rattle.flow_def.proofs.Reach.{Inside}
use Rattle.flow_def.proofs.Nets.{crossing, cut}
use Rattle.solve_def.specs.Sizes.{net_shift}
use Rattle.solve_def.specs.Held.{unshifted, low_of, high_of}
use Rattle.solve_def.proofs.Amounts.{net, unshifted_val}
use Rattle.solve_def.proofs.Sums.{sum_holds}
use Rattle.solve_def.proofs.Least.{start_in, end_in}
use Rattle.solve_def.proofs.Hunting.{Stuck, stuck_edge}

-- A sum of which each part is at most another's and c.
sum_within : (m c : ℕ) (f g : ℕ → ℤ) → ((k : ℕ) → k < m → up (f k) + dn (g k) ≤ up (g k) + dn (f k) + c) → up (sum m f) + dn (sum m g) ≤ up (sum m g) + dn (sum m f) + c * m
sum_within zero c f g h = omega arith
sum_within (suc m) c f g h =
    omega (arith, h m (omega arith), sum_within m c f g (λ k l. h k (omega arith)), plus_val (f m) (sum m f), plus_val (g m) (sum m g))

-- What a stream must bring into a set of places at least, less what it can take out at most.
abbrev pub edge : (ℕ → Bool) → Stream → ℤ
edge c s = pick (c s.to) (pick (c s.from) (pos 0) (unshifted (low_of s))) (pick (c s.from) (neg_ℤ (unshifted (high_of s))) (pos 0))

module _ (n : ℕ) (ss : List Stream) (xs es : List ℕ) (d root : ℕ) (ls : List Bool) (one : 1 ≤ d) (inside : Inside n ss) (near : root ≤ n)
    (nets : (u : ℕ) → u ≤ n → up (net ss xs u) + net_shift ≡ get_or es u 0 + dn (net ss xs u)) (h : Stuck n ss xs es d root ls) where
  abbrev c : ℕ → Bool
  c v = get_or ls v false

  abbrev part : ℕ → ℤ
  part v = pick (c v) (net ss xs v) (pos 0)

  abbrev across : ℕ → ℤ
  across k = crossing c (stream_at ss k) (unshifted (get_or xs k 0))

  -- A stream of the border brings at most d − 1 more than it must.
  each : (k : ℕ) → k < length ss → up (across k) + dn (edge c (stream_at ss k)) ≤ up (edge c (stream_at ss k)) + dn (across k) + (d - 1)
  each k l = go (end_in ss ls k) (start_in ss ls k) refl refl
    where
      s : Stream
      s = stream_at ss k

      x : ℕ
      x = get_or xs k 0

      go : (a b : Bool) → end_in ss ls k ≡ a → start_in ss ls k ≡ b
          → up (pick a (pick b (pos 0) (unshifted x)) (pick b (neg_ℤ (unshifted x)) (pos 0))) + dn (pick a (pick b (pos 0) (unshifted (low_of s))) (pick b (neg_ℤ (unshifted (high_of s))) (pos 0)))
          ≤ up (pick a (pick b (pos 0) (unshifted (low_of s))) (pick b (neg_ℤ (unshifted (high_of s))) (pos 0)))
          + dn (pick a (pick b (pos 0) (unshifted x)) (pick b (neg_ℤ (unshifted x)) (pos 0))) + (d - 1)
      go true true p q = omega arith
      go false false p q = omega arith
      go true false p q = omega (arith, (stuck_edge n ss xs es d root ls h k l).1 q p, unshifted_val x, unshifted_val (low_of s))
      go false true p q =
          let y = unshifted x in
          let z = unshifted (high_of s) in
          omega (arith, (stuck_edge n ss xs es d root ls h k l).0 q p, unshifted_val x, unshifted_val (high_of s), up_neg y, dn_neg y, up_neg z, dn_neg z)

  least : (v : ℕ) → v < suc n → dn (part v) ≡ 0
  least v l = by_cases (c v)
      (λ a. rw a (⊎_elim (λ (o : up (net ss xs v) ≡ 0). omega (arith, h.none_less v (omega arith) a, nets v (omega arith))) (λ (o : dn (net ss xs v) ≡ 0). o) (parts (net ss xs v))))
      (λ a. rw a refl)

  -- So the nets of the visited places are at most d − 1 for each stream above what they must take in less what they can let out.
  stuck_sum : up (sum (suc n) part) + dn (sum (length ss) (λ k. edge c (stream_at ss k))) ≤ up (sum (length ss) (λ k. edge c (stream_at ss k))) + dn (sum (suc n) part) + (d - 1) * length ss
  stuck_sum =
      let e = cut n c ss (λ k. unshifted (get_or xs k 0)) inside in
      omega (arith, sum_within (length ss) (d - 1) across (λ k. edge c (stream_at ss k)) each, ap up e, ap dn e)

  -- And the root's net is one of them: at step 1 they must take in more than they can let out.
  pub stuck_over : up (net ss xs root) + dn (sum (length ss) (λ k. edge c (stream_at ss k))) ≤ up (sum (length ss) (λ k. edge c (stream_at ss k))) + (d - 1) * length ss
  stuck_over =
      let a : up (part root) ≡ up (net ss xs root) = rw h.rooted refl in
      omega (arith, stuck_sum, sum_holds (suc n) part (λ v l. omega (arith, least v l)) root (omega arith), least root (omega arith), a)

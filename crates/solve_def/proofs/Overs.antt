-- Law E: what is over at the places rises little where amounts move little.
use mathlib.Core.Path.{◌≡◌, refl, sym, ◌∙◌, ap, ap₂}
use mathlib.Core.Bool.{Bool, true, false}
use mathlib.Core.List.{List, [], ◌∷◌}
use mathlib.Core.Logic.{⊎_elim}
use lib.IntN.{ℤ, pos, negsuc, neg_ℤ, nat_abs, ◌+ℤ◌, ◌-ℤ◌}
use Prim.Native.Nat.{ℕ, zero, suc, ◌+◌, ◌-◌, ◌*◌, ◌≤◌, ◌<◌}
use native.Mathlib.Omega.{arith}
use lib.ListN.{length, get_or}
use Rattle.num_bytes.specs.Choice.{pick}
use Rattle.plant_def.specs.declared.Stream.{Stream}
use Rattle.flow_def.specs.Flows.{stream_at}
use Rattle.num_bytes.proofs.Integers.{up, dn, Le, plus_val, minus_val, up_neg, dn_neg, size_val, parts}
use Rattle.num_bytes.proofs.Sums.{sum, sum_plus, sum_le}
use Rattle.flow_def.proofs.Reach.{Inside}
use Rattle.flow_def.proofs.Nets.{net_of, crossing, cut}
use Rattle.solve_def.specs.Sizes.{net_shift}
use Rattle.solve_def.specs.Model.{excess_sum}
use Rattle.solve_def.proofs.Sums.{sum_const}

-- What is over at a place: its net, 0 where that is negative; and the sum of it over the places 0 to n - 1.
abbrev pub over : ℤ → ℕ
over (pos a) = a
over (negsuc a) = 0

-- What is over at the first n places.
unfoldable pub over_to : ℕ → (ℕ → ℤ) → ℕ
over_to zero z = 0
over_to (suc n) z = over (z n) + over_to n z

over_up : (z : ℤ) → over z ≡ up z
over_up (pos a) = refl
over_up (negsuc a) = refl

-- As nets are held.
over_front : (n : ℕ) (z : ℕ → ℤ) → over_to (suc n) z ≡ over (z 0) + over_to n (λ k. z (suc k))
unfolding over_to
over_front zero z = refl
over_front (suc n) z = omega (arith, over_front n z)

over_one : (z : ℤ) (e : ℕ) → z ≡ pos e -ℤ pos net_shift → over z ≡ e - net_shift
over_one z e h = ⊎_elim
    (λ (p : up z ≡ 0). omega (arith, p, over_up z, ap up h, ap dn h, minus_val (pos e) (pos net_shift)))
    (λ (p : dn z ≡ 0). omega (arith, p, over_up z, ap up h, ap dn h, minus_val (pos e) (pos net_shift)))
    (parts z)

-- By nets as they are held.
pub over_held : (es : List ℕ) (z : ℕ → ℤ) → ((u : ℕ) → u < length es → z u ≡ pos (get_or es u 0) -ℤ pos net_shift) → over_to (length es) z ≡ excess_sum es
unfolding excess_sum over_to
over_held [] z h = refl
over_held (e ∷ es) z h =
    over_front (length es) z ∙ ap₂ ◌+◌ (over_one (z 0) e (h 0 (omega arith))) (over_held es (λ k. z (suc k)) (λ u l. h (suc u) (omega arith)))

-- The nets of a set of places are together at most what is over.
pub over_set_most : (n : ℕ) (c : ℕ → Bool) (z : ℕ → ℤ) → Le (sum n (λ u. pick (c u) (z u) (pos 0))) (pos (over_to n z))
unfolding over_to
over_set_most zero c z = omega arith
over_set_most (suc n) c z =
    omega (
      arith,
      one (c n) (z n),
      over_set_most n c z,
      plus_val (pick (c n) (z n) (pos 0)) (sum n (λ u. pick (c u) (z u) (pos 0))),
    )
  where
    one : (b : Bool) (a : ℤ) → up (pick b a (pos 0)) ≤ over a + dn (pick b a (pos 0))
    one true a = omega (arith, over_up a)
    one false a = omega arith

-- Those of the places whose net is not negative are what is over.
abbrev full : ℤ → Bool
full (pos a) = true
full (negsuc a) = false

over_is : (n : ℕ) (z : ℕ → ℤ) → sum n (λ u. pick (full (z u)) (z u) (pos 0)) ≡ pos (over_to n z)
unfolding over_to
over_is zero z = refl
over_is (suc n) z = ap₂ ◌+ℤ◌ (one (z n)) (over_is n z)
  where
    one : (a : ℤ) → pick (full a) a (pos 0) ≡ pos (over a)
    one (pos a) = refl
    one (negsuc a) = refl

-- A stream whose amount moves by at most d brings at most d more into a set.
crossing_near : (c : ℕ → Bool) (s : Stream) (x y : ℤ) (d : ℕ) → Le y (x +ℤ pos d) → Le x (y +ℤ pos d) → Le (crossing c s y) (crossing c s x +ℤ pos d)
crossing_near c s x y d h k = go (c s.to) (c s.from)
  where
    go : (a b : Bool) → Le (pick a (pick b (pos 0) y) (pick b (neg_ℤ y) (pos 0))) (pick a (pick b (pos 0) x) (pick b (neg_ℤ x) (pos 0)) +ℤ pos d)
    go true true = omega arith
    go true false = h
    go false true = omega (arith, k, up_neg x, dn_neg x, up_neg y, dn_neg y, plus_val (neg_ℤ x) (pos d), plus_val y (pos d))
    go false false = omega arith

module _ (n : ℕ) (ss : List Stream) (y : ℕ → ℤ) (w : Inside n ss) where
  abbrev rich : ℕ → Bool
  rich u = full (net_of ss y u)

  over_crosses : sum (length ss) (λ k. crossing rich (stream_at ss k) (y k)) ≡ pos (over_to (suc n) (net_of ss y))
  over_crosses = sym (cut n rich ss y w) ∙ over_is (suc n) (net_of ss y)

  -- Where each amount moves by at most d, what is over rises by at most d for each stream.
  pub over_moved : (d : ℕ) (x : ℕ → ℤ) → ((k : ℕ) → k < length ss → Le (y k) (x k +ℤ pos d) × Le (x k) (y k +ℤ pos d))
      → over_to (suc n) (net_of ss y) ≤ over_to (suc n) (net_of ss x) + length ss * d
  over_moved d x near =
      omega (
        arith,
        sum_le (length ss) (λ k. crossing rich (stream_at ss k) (y k)) (λ k. crossing rich (stream_at ss k) (x k) +ℤ pos d)
            (λ k l. crossing_near rich (stream_at ss k) (x k) (y k) d (near k l).0 (near k l).1),
        ap up over_crosses,
        ap dn over_crosses,
        ap up there,
        ap dn there,
        plus_val (sum (suc n) (λ u. pick (rich u) (net_of ss x u) (pos 0))) (pos (length ss * d)),
        over_set_most (suc n) rich (net_of ss x),
      )
    where
      there : sum (length ss) (λ k. crossing rich (stream_at ss k) (x k) +ℤ pos d)
          ≡ sum (suc n) (λ u. pick (rich u) (net_of ss x u) (pos 0)) +ℤ pos (length ss * d)
      there =
          sum_plus (length ss) (λ k. crossing rich (stream_at ss k) (x k)) (λ k. pos d)
          ∙ ap₂ ◌+ℤ◌ (sym (cut n rich ss x w)) (sum_const (length ss) d)

  -- Amounts of size t at most leave at most t over for each stream.
  pub over_start : (t : ℕ) → ((k : ℕ) → k < length ss → nat_abs (y k) ≤ t) → over_to (suc n) (net_of ss y) ≤ length ss * t
  over_start t small =
      omega (
        arith,
        sum_le (length ss) (λ k. crossing rich (stream_at ss k) (y k)) (λ k. pos t)
            (λ k l. each (rich (stream_at ss k).to) (rich (stream_at ss k).from) (y k) (small k l)),
        ap up over_crosses,
        ap dn over_crosses,
        ap up (sum_const (length ss) t),
        ap dn (sum_const (length ss) t),
      )
    where
      each : (a b : Bool) (z : ℤ) → nat_abs z ≤ t → Le (pick a (pick b (pos 0) z) (pick b (neg_ℤ z) (pos 0))) (pos t)
      each true true z h = omega arith
      each true false z h = omega (arith, h, size_val z)
      each false true z h = omega (arith, h, size_val z, up_neg z, dn_neg z)
      each false false z h = omega arith

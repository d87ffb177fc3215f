-- Law T: potentials that hold a flow bound its metered amounts by what is over at the places.
use mathlib.Core.Path.{◌≡◌, refl, sym, ◌∙◌, ap}
use mathlib.Core.Bool.{Bool, true, false, false≢true}
use mathlib.Core.List.{List}
use mathlib.Core.Logic.{⊎_elim}
use lib.IntN.{ℤ, pos, neg_ℤ, nat_abs, ◌+ℤ◌, ◌-ℤ◌}
use lib.Signed.{le_z}
use Prim.Native.Nat.{ℕ, suc, ◌+◌, ◌*◌, ◌≤◌, ◌<◌}
use native.Mathlib.Nat.{mul-le-mul_left, mul-le-mul_right}
use native.Mathlib.Omega.{arith}
use native.Mathlib.Decide.{dec_le, ℕ_discrete}
use lib.ListN.{length, get_or}
use Rattle.num_bytes.specs.Choice.{pick}
use Rattle.num_bytes.proofs.Tests.{by_cases}
use Rattle.plant_def.specs.declared.Stream.{Stream}
use Rattle.plant_def.specs.Limits.{max_units}
use Rattle.flow_def.specs.Flows.{stream_at}
use Rattle.flow_def.specs.Certificate.{climb, weight_of}
use Rattle.num_bytes.proofs.Integers.{up, dn, Le, Lt, plus_val, minus_val, up_neg, dn_neg, size_val, parts, le_z_le, le_le_z}
use Rattle.num_bytes.proofs.Sums.{sum, sum_plus}
use Rattle.flow_def.proofs.Reach.{Inside}
use Rattle.flow_def.proofs.Nets.{net_of, crossing, crossing_level, cut}
use Rattle.solve_def.specs.Sizes.{flow_shift, most_reading, most_range, most_step, metered_room}
use Rattle.solve_def.specs.Held.{unshifted, reading_of, low_of, high_of, StepMet}
use Rattle.solve_def.specs.SearchNeeds.{SizeWithin, Moderate}
use Rattle.solve_def.specs.declared.State.{State}
use Rattle.solve_def.specs.SolverNeeds.{Sound}
use Rattle.solve_def.proofs.Amounts.{unshifted_val}
use Rattle.solve_def.proofs.Ranged.{Ranged}
use Rattle.solve_def.proofs.Bounds.{weight_some}
use Rattle.solve_def.proofs.Streams.{Solvable}
use Rattle.solve_def.proofs.Nearest.{sound_over}
use Rattle.solve_def.proofs.Sums.{sum_const, sum_holds}
use Rattle.solve_def.proofs.Overs.{over_to, over_set_most}

-- The places whose potential is at least P.
abbrev above : (ℕ → ℤ) → ℤ → ℕ → Bool
above π P u = le_z P (π u)

le_z_not : (x y : ℤ) → le_z x y ≡ false → Lt y x
le_z_not x y e = elim (dec_le (up x + dn y) (up y + dn x)) [ yes h ↦ absurd (false≢true (sym e ∙ le_le_z x y h)) | no h ↦ omega arith ]

lt_not_le_z : (x y : ℤ) → Lt y x → le_z x y ≡ false
lt_not_le_z x y h = by_cases (le_z x y) (λ e. absurd (no_le (le_z_le x y e))) (λ e. e)
  where
    no_le : Le x y → ⊥
    no_le k = omega arith

-- What is asked of a metered stream: above t it runs uphill, below −t downhill.
pub record Slopes (t : ℕ) (x c : ℤ) : Type 0 where
  pub runs_up : t + dn x < up x → Lt (pos 0) c
  pub runs_down : t + up x < dn x → Lt c (pos 0)

-- So uphill its amount is at least −t, downhill at most t.
uphill : (t : ℕ) (x c : ℤ) → Slopes t x c → Lt (pos 0) c → dn x ≤ t + up x
uphill t x c s h = elim (dec_le (dn x) (t + up x)) [ yes k ↦ k | no k ↦ absurd (turned (s.runs_down (omega arith))) ]
  where
    turned : Lt c (pos 0) → ⊥
    turned k = omega arith

downhill : (t : ℕ) (x c : ℤ) → Slopes t x c → Lt c (pos 0) → up x ≤ t + dn x
downhill t x c s h = elim (dec_le (up x) (t + dn x)) [ yes k ↦ k | no k ↦ absurd (turned (s.runs_up (omega arith))) ]
  where
    turned : Lt (pos 0) c → ⊥
    turned k = omega arith

module _ (n t : ℕ) (π : ℕ → ℤ) (ss : List Stream) (x : ℕ → ℤ) (w : Inside n ss)
    (agreed : (k : ℕ) → k < length ss → (stream_at ss k).metered ≡ false → π (stream_at ss k).from ≡ π (stream_at ss k).to)
    (sloped : (k : ℕ) → k < length ss → (stream_at ss k).metered ≡ true → Slopes t (x k) (climb π (stream_at ss k))) where
  -- Into the places from a potential up no stream brings less than −t.
  crosses : (P : ℤ) (j : ℕ) → j < length ss → Le (pos 0) (crossing (above π P) (stream_at ss j) (x j) +ℤ pos t)
  crosses P j l = omega (arith, go (stream_at ss j).metered refl, plus_val (crossing (above π P) (stream_at ss j) (x j)) (pos t))
    where
      s : Stream
      s = stream_at ss j

      level : above π P s.from ≡ above π P s.to → dn (crossing (above π P) s (x j)) ≤ t + up (crossing (above π P) s (x j))
      level e = rw (crossing_level (above π P) s (x j) e) (omega arith)

      sides : s.metered ≡ true → (a b : Bool) → above π P s.to ≡ a → above π P s.from ≡ b
          → dn (crossing (above π P) s (x j)) ≤ t + up (crossing (above π P) s (x j))
      sides m true true a-is b-is = level (b-is ∙ sym a-is)
      sides m false false a-is b-is = level (b-is ∙ sym a-is)
      sides m true false a-is b-is =
          rw (a-is, b-is) (uphill t (x j) (climb π s) (sloped j l m)
          (omega (arith, le_z_le P (π s.to) a-is, le_z_not P (π s.from) b-is, minus_val (π s.to) (π s.from))))
      sides m false true a-is b-is =
          rw (a-is, b-is) (omega (
            arith,
            up_neg (x j),
            dn_neg (x j),
            downhill t (x j) (climb π s) (sloped j l m)
                (omega (arith, le_z_not P (π s.to) a-is, le_z_le P (π s.from) b-is, minus_val (π s.to) (π s.from))),
          ))

      go : (m : Bool) → s.metered ≡ m → dn (crossing (above π P) s (x j)) ≤ t + up (crossing (above π P) s (x j))
      go true m-is = sides m-is (above π P s.to) (above π P s.from) refl refl
      go false m-is = level (ap (le_z P) (agreed j l m-is))

  -- So what one stream brings into them is at most what is over, and t for each other stream.
  one_crosses : (P : ℤ) (k : ℕ) → k < length ss
      → Le (crossing (above π P) (stream_at ss k) (x k) +ℤ pos t) (pos (length ss * t + over_to (suc n) (net_of ss x)))
  one_crosses P k l =
      omega (
        arith,
        sum_holds (length ss) (λ j. crossing (above π P) (stream_at ss j) (x j) +ℤ pos t) (crosses P) k l,
        ap up total,
        ap dn total,
        plus_val (sum (length ss) (λ j. crossing (above π P) (stream_at ss j) (x j))) (pos (length ss * t)),
        ap up (cut n (above π P) ss x w),
        ap dn (cut n (above π P) ss x w),
        over_set_most (suc n) (above π P) (net_of ss x),
      )
    where
      total : sum (length ss) (λ j. crossing (above π P) (stream_at ss j) (x j) +ℤ pos t)
          ≡ sum (length ss) (λ j. crossing (above π P) (stream_at ss j) (x j)) +ℤ pos (length ss * t)
      total =
          sum_plus (length ss) (λ j. crossing (above π P) (stream_at ss j) (x j)) (λ j. pos t)
          ∙ ap (λ (z : ℤ). sum (length ss) (λ j. crossing (above π P) (stream_at ss j) (x j)) +ℤ z) (sum_const (length ss) t)

  -- A metered amount is at most t for each stream, and what is over.
  pub tall : (k : ℕ) → k < length ss → (stream_at ss k).metered ≡ true → nat_abs (x k) ≤ length ss * t + over_to (suc n) (net_of ss x)
  tall k l m = elim (dec_le (nat_abs (x k)) t) [ yes h ↦ omega (arith, mul-le-mul_right t (first l)) | no h ↦ big (omega arith) ]
    where
      s : Stream
      s = stream_at ss k

      first : k < length ss → 1 ≤ length ss
      first l = omega arith

      crossed : (P : ℤ) (a b : Bool) → above π P s.to ≡ a → above π P s.from ≡ b
          → Le (pick a (pick b (pos 0) (x k)) (pick b (neg_ℤ (x k)) (pos 0)) +ℤ pos t) (pos (length ss * t + over_to (suc n) (net_of ss x)))
      crossed P a b e f = rw (← e, ← f) (one_crosses P k l)

      rising : t + dn (x k) < up (x k) → up (x k) + t ≤ length ss * t + over_to (suc n) (net_of ss x) + dn (x k)
      rising h =
          let c : Lt (pos 0) (climb π s) = (sloped k l m).runs_up h in
          omega (
            arith,
            crossed (π s.to) true false (le_le_z (π s.to) (π s.to) (omega arith))
                (lt_not_le_z (π s.to) (π s.from) (omega (arith, c, minus_val (π s.to) (π s.from)))),
            plus_val (x k) (pos t),
          )

      falling : t + up (x k) < dn (x k) → dn (x k) + t ≤ length ss * t + over_to (suc n) (net_of ss x) + up (x k)
      falling h =
          let c : Lt (climb π s) (pos 0) = (sloped k l m).runs_down h in
          omega (
            arith,
            crossed (π s.from) false true (lt_not_le_z (π s.from) (π s.to) (omega (arith, c, minus_val (π s.to) (π s.from))))
                (le_le_z (π s.from) (π s.from) (omega arith)),
            plus_val (neg_ℤ (x k)) (pos t),
            up_neg (x k),
            dn_neg (x k),
          )

      big : t < nat_abs (x k) → nat_abs (x k) ≤ length ss * t + over_to (suc n) (net_of ss x)
      big h = ⊎_elim
          (λ (e : up (x k) ≡ 0). omega (arith, size_val (x k), falling (omega (arith, size_val (x k)))))
          (λ (e : dn (x k) ≡ 0). omega (arith, size_val (x k), rising (omega (arith, size_val (x k)))))
          (parts (x k))

-- A stream that meets the step condition has such slopes.
module _ (d : ℕ) (s : Stream) (X pu pv : ℕ) (few : d ≤ most_step) (r : Ranged s) (z : SizeWithin most_reading (reading_of s)) (w : 1 ≤ weight_of s)
    (h : StepMet d (weight_of s) X (reading_of s) pu pv (low_of s) (high_of s)) (i : (low_of s ≤ X) × (X ≤ high_of s)) where
  high_slope : flow_shift + most_range < X → pu < pv
  high_slope l = elim (ℕ_discrete (low_of s) 0) [
    | yes e ↦ omega (arith, h.low (omega (arith, e)), mul-le-mul_left (weight_of s) far, w)
    | no e ↦ absurd (omega (arith, (r.sized (omega arith)).1, i.1))
  ]
    where
      far : 2 * reading_of s + d + 1 ≤ 2 * X
      far = omega (arith, z.0)

  low_slope : X + most_range < flow_shift → pv < pu
  low_slope l = elim (ℕ_discrete (low_of s) 0) [
    | yes e ↦ omega (arith, h.high (omega (arith, r.wide e)), mul-le-mul_left (weight_of s) far, w)
    | no e ↦ absurd (omega (arith, (r.sized (omega arith)).0, i.0))
  ]
    where
      far : 2 * X + d + 1 ≤ 2 * reading_of s
      far = omega (arith, z.1)

  slopes : Slopes most_range (unshifted X) (pos pv -ℤ pos pu)
  slopes = record {
    runs_up = λ l. omega (arith, high_slope (omega (arith, unshifted_val X)), minus_val (pos pv) (pos pu));
    runs_down = λ l. omega (arith, low_slope (omega (arith, unshifted_val X)), minus_val (pos pv) (pos pu));
  }

-- So metered amounts are not too large in any sound state.
pub sound_tall : (ss : List Stream) → Solvable ss → (d b : ℕ) (st : State) → d ≤ most_step → Sound ss d b st
    → (k : ℕ) → k < length ss → (stream_at ss k).metered ≡ true → SizeWithin metered_room (get_or st.flows k 0)
sound_tall ss v d b st few h k l m = (omega (arith, size, unshifted_val X, size_val (unshifted X)), omega (arith, size, unshifted_val X, size_val (unshifted X)))
  where
    X : ℕ
    X = get_or st.flows k 0

    π : ℕ → ℤ
    π u = pos (get_or st.potentials u 0)

    sloped : (j : ℕ) → j < length ss → (stream_at ss j).metered ≡ true → Slopes most_range (unshifted (get_or st.flows j 0)) (climb π (stream_at ss j))
    sloped j o e =
        slopes d (stream_at ss j) (get_or st.flows j 0) (get_or st.potentials (stream_at ss j).from 0) (get_or st.potentials (stream_at ss j).to 0) few (v.ranged j o)
        (v.plain.read j o e) (rw (weight_some (stream_at ss j) e) (v.weighed j o e)) (h.met j o) (h.inside j o)

    size : nat_abs (unshifted X) ≤ metered_room
    size =
        omega (
          arith,
          tall max_units most_range π ss (λ j. unshifted (get_or st.flows j 0)) v.plain.inside (λ j o e. ap pos (h.agreed j o e)) sloped k l m,
          mul-le-mul_right most_range v.plain.few,
          sound_over ss d b st h,
          h.over,
        )

-- So the metered amounts of a sound state are moderate.
pub sound_moderate : (ss : List Stream) → Solvable ss → (d b : ℕ) (st : State) → d ≤ most_step → Sound ss d b st → Moderate ss st.flows
sound_moderate ss v d b st few h k l m = let r = sound_tall ss v d b st few h k l m in (omega (arith, r.0), omega (arith, r.1))

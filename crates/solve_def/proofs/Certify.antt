-- From held numbers to integers: a level flow in range that meets the step condition is certified by its potentials.
use mathlib.Core.Path.{◌≡◌, sym, ◌∙◌, ap, ap₂, subst}
use mathlib.Core.Bool.{true, false}
use mathlib.Core.List.{List}
use lib.IntN.{ℤ, pos, negsuc, nat_abs, ◌+ℤ◌, ◌-ℤ◌, ◌*ℤ◌, zero-*ℤ}
use lib.Signed.{lt_z}
use Prim.Native.Nat.{ℕ, suc, ◌+◌, ◌-◌, ◌*◌, ◌≤◌, ◌<◌}
use native.Mathlib.Omega.{arith}
use lib.ListN.{length, get_or}
use Rattle.num_bytes.proofs.Tests.{by_cases}
use Rattle.plant_def.specs.declared.Stream.{Stream}
use Rattle.plant_def.specs.Plants.{Plant, limited}
use Rattle.plant_def.specs.Within.{Within, WithinStream}
use Rattle.flow_def.specs.Flows.{stream_at, amount_at, in_range}
use Rattle.flow_def.specs.Certificate.{weight_of, climb, lower, upper, rises, falls}
use Rattle.num_bytes.proofs.Integers.{up, dn, diff, Le, Lt, Z_diff, diff_val, Le-iff, minus_val, same, val, none_minus, lt_z_lt}
use Rattle.flow_def.proofs.Nets.{level_balanced}
use Rattle.flow_def.proofs.Ranges.{asked, whole_holds, allowed_of}
use Rattle.flow_def.proofs.Potentials.{StepAt, Certificate}
use Rattle.flow_def.proofs.Ties.{NoLess, NoMore}
use Rattle.solve_def.specs.Sizes.{flow_shift, potential_shift, settled_room}
use Rattle.solve_def.specs.Held.{shifted, unshifted, opened, reading_of, low_of, high_of}
use Rattle.solve_def.specs.ReducedCosts.{reduced_cost_by}
use Rattle.solve_def.specs.SearchNeeds.{SizeWithin}
use Rattle.solve_def.specs.SolverNeeds.{Even}
use Rattle.solve_def.specs.Promise.{potential, potential_at}
use Rattle.solve_def.proofs.Amounts.{unshifted_val, unshifted_is, opened_size, opened_at, net_opened}
use Rattle.solve_def.proofs.Bounds.{HasRoom, low_is, high_is, room_free, reduced_with_room}

-- The bounds of the step condition and the difference of potentials, as differences of naturals.
lower_diff : (w X R B : ℕ) → lower 1 w (diff X B -ℤ diff R B) ≡ diff (2 * (w * X)) (2 * (w * R) + w)
lower_diff w X R B = simp Z_diff (omega arith)

upper_diff : (w X R B : ℕ) → upper 1 w (diff X B -ℤ diff R B) ≡ diff (2 * (w * X) + w) (2 * (w * R))
upper_diff w X R B = simp Z_diff (omega arith)

climb_diff : (u v P : ℕ) → diff v P -ℤ diff u P ≡ diff v u
climb_diff u v P = simp Z_diff (omega arith)

lt_diff : (a b c d : ℕ) → a + d < c + b → Lt (diff a b) (diff c d)
lt_diff a b c d h = omega (arith, diff_val a b, diff_val c d)

-- A signed number that may be held, held and opened again, is the same.
pub held_right : (z : ℤ) → nat_abs z ≤ flow_shift → unshifted (shifted z) ≡ z
held_right (pos a) h = same (unshifted (flow_shift + a)) (pos a) (omega (arith, unshifted_val (flow_shift + a)))
held_right (negsuc a) h = same (unshifted (flow_shift - suc a)) (negsuc a) (omega (arith, unshifted_val (flow_shift - suc a)))

-- A signed number and the number that it is held as differ by the shift.
pub held_val : (z : ℤ) → nat_abs z ≤ flow_shift → up z + flow_shift ≡ shifted z + dn z
held_val z h = omega (arith, val (unshifted (shifted z)) z (held_right z h), unshifted_val (shifted z))

potential_is : (x : ℕ) → potential x ≡ diff x potential_shift
unfolding potential
potential_is x = same (pos x -ℤ pos potential_shift) (diff x potential_shift) (omega (arith, minus_val (pos x) (pos potential_shift), diff_val x potential_shift))

-- The range of a stream that carries X: it is met, and where more or less is in it the stream has room.
module _ {n : ℕ} (s : Stream) (w : WithinStream n s) (X b : ℕ) where
  low_val : limited s ≡ true → up s.low + flow_shift ≡ low_of s + dn s.low
  low_val m = rw (low_is s m) (held_val s.low (omega (arith, w.low_in m)))

  high_val : limited s ≡ true → up s.high + flow_shift ≡ high_of s + dn s.high
  high_val m = rw (high_is s m) (held_val s.high (omega (arith, w.high_in m)))

  range_met : (low_of s ≤ X) × (X ≤ high_of s) → in_range 1 s (unshifted X) ≡ true
  range_met i = whole_holds s (unshifted X) (λ m. (omega (arith, low_val m, unshifted_val X, i.0), omega (arith, high_val m, unshifted_val X, i.1)))

  module _ (c : SizeWithin b X) (fits : b < flow_shift) where
    falls_room : falls s (unshifted X) ≡ true → HasRoom s false X 1
    falls_room e = by_cases (limited s)
        (λ m. omega (arith, low_val m, unshifted_val X, lt_z_lt s.low (unshifted X) (asked (limited s) (lt_z s.low (unshifted X)) e m)))
        (λ m. room_free false s X 1 b m c (omega arith))

    rises_room : rises s (unshifted X) ≡ true → HasRoom s true X 1
    rises_room e = by_cases (limited s)
        (λ m. omega (arith, high_val m, unshifted_val X, lt_z_lt (unshifted X) s.high (asked (limited s) (lt_z (unshifted X) s.high) e m)))
        (λ m. room_free true s X 1 b m c (omega arith))

module _ (p : Plant) (w : Within p) (ps : List ℕ) (i : ℕ) (xs : List ℕ) (h : Even p.streams ps i xs) (few : i ≤ length p.streams) where
  abbrev ss : List Stream
  ss = p.streams

  long : length ss ≤ length xs
  long = omega (arith, h.long, w.few_streams)

  module _ (k : ℕ) (l : k < length p.streams) where
    abbrev s : Stream
    s = stream_at p.streams k

    abbrev W : ℕ
    W = weight_of (stream_at p.streams k)

    abbrev X : ℕ
    X = get_or xs k 0

    abbrev R : ℕ
    R = reading_of (stream_at p.streams k)

    abbrev pu : ℕ
    pu = get_or ps (stream_at p.streams k).from 0

    abbrev pv : ℕ
    pv = get_or ps (stream_at p.streams k).to 0

    abbrev x : ℤ
    x = amount_at (opened (length p.streams) xs) k

    x_is : x ≡ unshifted X
    x_is = opened_at (length ss) xs k long l

    less_room : falls s x ≡ true → HasRoom s false X 1
    less_room e = falls_room s (w.each k l) X (settled_room + i) (h.sized k (omega (arith, w.few_streams))) (omega (arith, w.few_streams)) (rw x_is at e)

    more_room : rises s x ≡ true → HasRoom s true X 1
    more_room e = rises_room s (w.each k l) X (settled_room + i) (h.sized k (omega (arith, w.few_streams))) (omega (arith, w.few_streams)) (rw x_is at e)

    climb_is : climb (potential_at ps) s ≡ diff pv pu
    climb_is = ap₂ ◌-ℤ◌ (potential_is pv) (potential_is pu) ∙ climb_diff pu pv potential_shift

    module _ (m : s.metered ≡ true) where
      deviation : x -ℤ s.reading ≡ diff X flow_shift -ℤ diff R flow_shift
      deviation = ap₂ ◌-ℤ◌ (x_is ∙ unshifted_is X) (sym (held_right s.reading (omega (arith, (w.each k l).within_range m))) ∙ unshifted_is R)

      lower_is : lower 1 W (x -ℤ s.reading) ≡ diff (2 * (W * X)) (2 * (W * R) + W)
      lower_is = ap (lower 1 W) deviation ∙ lower_diff W X R flow_shift

      upper_is : upper 1 W (x -ℤ s.reading) ≡ diff (2 * (W * X) + W) (2 * (W * R))
      upper_is = ap (upper 1 W) deviation ∙ upper_diff W X R flow_shift

      -- Where reduced cost is left backwards, the amount cannot be less at no cost.
      pub no_less : 0 < reduced_cost_by s false X pu pv 1 → NoLess (potential_at ps) s x
      no_less q e =
          subst (λ (a : ℤ). Lt a (climb (potential_at ps) s)) (sym lower_is)
          (subst (λ (b : ℤ). Lt (diff (2 * (W * X)) (2 * (W * R) + W)) b) (sym climb_is)
          (lt_diff _ _ pv pu (omega (arith, q, reduced_with_room false s X pu pv 1 (less_room e)))))

      -- Where reduced cost is left forwards, the amount cannot be more at no cost.
      pub no_more : 0 < reduced_cost_by s true X pu pv 1 → NoMore (potential_at ps) s x
      no_more q e =
          subst (λ (a : ℤ). Lt (climb (potential_at ps) s) a) (sym upper_is)
          (subst (λ (b : ℤ). Lt b (diff (2 * (W * X) + W) (2 * (W * R)))) (sym climb_is)
          (lt_diff pv pu _ _ (omega (arith, q, reduced_with_room true s X pu pv 1 (more_room e)))))

      step_metered : StepAt 1 (potential_at ps) s x
      step_metered = record {
        low = λ e.
            subst (λ (a : ℤ). Le a (climb (potential_at ps) s)) (sym lower_is)
            (subst (λ (b : ℤ). Le (diff (2 * (W * X)) (2 * (W * R) + W)) b) (sym climb_is) ((Le-iff _ _ pv pu).1 (omega (arith, (h.met k l).low (less_room e)))));
        high = λ e.
            subst (λ (a : ℤ). Le (climb (potential_at ps) s) a) (sym upper_is)
            (subst (λ (b : ℤ). Le b (diff (2 * (W * X) + W) (2 * (W * R)))) (sym climb_is) ((Le-iff pv pu _ _).1 (omega (arith, (h.met k l).high (more_room e)))));
      }

    step_free : s.metered ≡ false → StepAt 1 (potential_at ps) s x
    step_free m = record {
      low = λ e. subst (λ (a : ℤ). Le a (climb (potential_at ps) s)) (sym (none (pos 2 *ℤ (x -ℤ s.reading) -ℤ pos 1))) (rw level (omega arith));
      high = λ e. subst (λ (a : ℤ). Le (climb (potential_at ps) s) a) (sym (none (pos 2 *ℤ (x -ℤ s.reading) +ℤ pos 1))) (rw level (omega arith));
    }
      where
        zero_weight : W ≡ 0
        zero_weight = rw m

        none : (y : ℤ) → pos W *ℤ y ≡ pos 0
        none y = ap (λ (a : ℕ). pos a *ℤ y) zero_weight ∙ zero-*ℤ y

        level : climb (potential_at ps) s ≡ pos 0
        level = none_minus (potential pv) (potential pu) (ap potential (sym (h.agreed k l m)))

    met_step : StepAt 1 (potential_at ps) s x
    met_step = by_cases s.metered step_metered step_free

    met : in_range 1 s x ≡ true
    met = rw x_is (range_met s (w.each k l) X 0 (h.inside k l))

  -- The flow is certified.
  pub certify : Certificate p (opened (length p.streams) xs) (potential_at ps)
  certify = record {
    balance =
        allowed_of 1 p (opened (length ss) xs)
        (level_balanced p (opened (length ss) xs) (opened_size (length ss) xs long)
        (λ u l. net_opened u p.streams xs long ∙ h.level u (omega (arith, w.few_units))))
        met;
    steps = met_step;
  }

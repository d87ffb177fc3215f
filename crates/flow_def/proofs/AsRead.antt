-- A meter whose ends unmetered streams join: a flow in fractions of least cost has there the value in range nearest to its reading.
use mathlib.Core.Path.{◌≡◌, refl, sym, ◌∙◌, ap, ap₂, subst}
use mathlib.Core.Bool.{true, ◌&&◌}
use mathlib.Core.Logic.{⊎_elim}
use mathlib.Core.List.{List}
use lib.IntN.{ℤ, pos, nat_abs, ◌+ℤ◌, ◌-ℤ◌, ◌*ℤ◌, +ℤ_idr}
use lib.Signed.{lt_z}
use Prim.Native.Nat.{ℕ, ◌*◌, ◌≤◌, ◌<◌}
use native.Mathlib.Nat.{mul-le-mul, mul-le-mul_left}
use native.Mathlib.Omega.{arith}
use native.Mathlib.Decide.{ℕ_discrete}
use Rattle.num_bytes.proofs.Tests.{by_cases, clash, and_left, and_right, picked}
use Rattle.plant_def.specs.declared.Stream.{Stream}
use Rattle.plant_def.specs.Plants.{Plant, limited}
use Rattle.plant_def.specs.Within.{Within}
use Rattle.flow_def.specs.Flows.{amount_at, balanced, in_range, allowed_over, square, nearest}
use Rattle.flow_def.specs.Chains.{unmetered_only, Chain}
use Rattle.flow_def.specs.Certificate.{weight_of}
use Rattle.num_bytes.proofs.Integers.{Le, val, parts, canon, Z_diff, minus_val, size_val, size_none, minus_none, none_minus, lt_z_lt}
use Rattle.num_bytes.proofs.Sums.{sum_plus, sum_tight}
use Rattle.flow_def.proofs.Reach.{chain_sym}
use Rattle.flow_def.proofs.Nets.{count_of, stream_of, net_of, listed, listed_at, listed_balanced, balanced_nets}
use Rattle.flow_def.proofs.Routes.{only, only_at, only_off, brought_ends, net_plus, net_only, Route, route}
use Rattle.flow_def.proofs.Ranges.{range_says, range_holds, nearest_in, balanced_of, range_of, allowed_of}
use Rattle.flow_def.proofs.Potentials.{share_over}
use Rattle.flow_def.specs.Least.{LeastInFractions}
use Rattle.flow_def.proofs.Mixing.{times_le, times_range}
use Rattle.flow_def.proofs.Near.{no_square, cost_sum, difference_at, difference_cost}

-- Of amounts on one side of b, the nearer one is nearer.
nearer_above : (a b y : ℤ) → Le b a → Le a y → nat_abs (a -ℤ b) ≤ nat_abs (y -ℤ b)
nearer_above a b y h k = ⊎_elim
    (λ e. omega (arith, e, minus_val a b, minus_val y b, size_val (a -ℤ b), size_val (y -ℤ b)))
    (λ e. omega (arith, e, minus_val a b, minus_val y b, size_val (a -ℤ b), size_val (y -ℤ b))) (parts (a -ℤ b))

nearer_below : (a b y : ℤ) → Le a b → Le y a → nat_abs (a -ℤ b) ≤ nat_abs (y -ℤ b)
nearer_below a b y h k = ⊎_elim
    (λ e. omega (arith, e, minus_val a b, minus_val y b, size_val (a -ℤ b), size_val (y -ℤ b)))
    (λ e. omega (arith, e, minus_val a b, minus_val y b, size_val (a -ℤ b), size_val (y -ℤ b))) (parts (a -ℤ b))

-- No amount over d in range is nearer to the reading than the nearest value.
nearest_least : (d : ℕ) (s : Stream) (y : ℤ) → in_range d s y ≡ true → square (pos d *ℤ nearest s -ℤ pos d *ℤ s.reading) ≤ square (y -ℤ pos d *ℤ s.reading)
nearest_least d s y e = mul-le-mul size size
  where
    size : nat_abs (pos d *ℤ nearest s -ℤ pos d *ℤ s.reading) ≤ nat_abs (y -ℤ pos d *ℤ s.reading)
    size =
        picked (λ (n : ℤ). nat_abs (pos d *ℤ n -ℤ pos d *ℤ s.reading) ≤ nat_abs (y -ℤ pos d *ℤ s.reading)) (limited s && lt_z s.reading s.low) s.low _
        (λ t. nearer_above (pos d *ℤ s.low) (pos d *ℤ s.reading) y
        (times_le d s.reading s.low (let h = lt_z_lt s.reading s.low (and_right (limited s) _ t) in omega arith)) (range_says d s y e (and_left (limited s) _ t)).0)
        (λ t. picked (λ (n : ℤ). nat_abs (pos d *ℤ n -ℤ pos d *ℤ s.reading) ≤ nat_abs (y -ℤ pos d *ℤ s.reading)) (limited s && lt_z s.high s.reading) s.high s.reading
        (λ u. nearer_below (pos d *ℤ s.high) (pos d *ℤ s.reading) y
        (times_le d s.high s.reading (let h = lt_z_lt s.high s.reading (and_right (limited s) _ u) in omega arith)) (range_says d s y e (and_left (limited s) _ u)).1)
        (λ u. omega (arith, ap nat_abs (none_minus (pos d *ℤ s.reading) (pos d *ℤ s.reading) refl))))

there_and_back : (a b : ℤ) → (a -ℤ b) +ℤ (b -ℤ a) ≡ pos 0
there_and_back a b = rw (← canon a, ← canon b) (simp Z_diff (omega arith))

to_aim : (y a : ℤ) → y +ℤ ((a -ℤ y) +ℤ pos 0) ≡ a
to_aim y a = rw (← canon y, ← canon a) (simp Z_diff (omega arith))

module _ (p : Plant) (w : Within p) (d : ℕ) (ys : List ℤ) (m : LeastInFractions p d ys) (i : ℕ) (l : i < count_of p) (t : (stream_of p i).metered ≡ true)
    (c : Chain unmetered_only p.streams (stream_of p i).from (stream_of p i).to) where
  abbrev aim : ℤ
  aim = pos d *ℤ nearest (stream_of p i)

  abbrev change : ℤ
  change = aim -ℤ amount_at ys i

  -- The meter moved to that value, and what it carries more led back over unmetered streams.
  back : (x : ℕ → ℤ) × Route unmetered_only p.streams (stream_of p i).to (stream_of p i).from change x
  back = route unmetered_only p.streams (stream_of p i).to change (chain_sym c)

  abbrev delta : ℕ → ℤ
  delta k = only i change k +ℤ back.0 k

  abbrev moved : List ℤ
  moved = listed p (λ k. amount_at ys k +ℤ delta k)

  delta_net : (u : ℕ) → net_of p.streams delta u ≡ pos 0
  delta_net u =
      net_plus p.streams (only i change) back.0 u
      ∙ ap₂ ◌+ℤ◌ (net_only p.streams i change u l ∙ brought_ends u (stream_of p i) change) (back.1.net u)
      ∙ there_and_back (only (stream_of p i).to change u) (only (stream_of p i).from change u)

  moved_balanced : balanced p moved ≡ true
  moved_balanced =
      listed_balanced p (λ k. amount_at ys k +ℤ delta k)
      (λ u h. net_plus p.streams (amount_at ys) delta u ∙ ap₂ ◌+ℤ◌ (balanced_nets p w ys (balanced_of d p ys m.allowed) u h) (delta_net u))

  -- It is there, and the other meters are as they were.
  at_aim : amount_at moved i ≡ aim
  at_aim =
      listed_at p (λ k. amount_at ys k +ℤ delta k) i l
      ∙ ap (λ (z : ℤ). amount_at ys i +ℤ z) (ap₂ ◌+ℤ◌ (only_at i change) (back.1.off i (rw t)))
      ∙ to_aim (amount_at ys i) aim

  elsewhere : (k : ℕ) → k < count_of p → (i ≡ k → ⊥) → (stream_of p k).metered ≡ true → amount_at moved k ≡ amount_at ys k
  elsewhere k h n q =
      listed_at p (λ k. amount_at ys k +ℤ delta k) k h
      ∙ ap (λ (z : ℤ). amount_at ys k +ℤ z) (ap₂ ◌+ℤ◌ (only_off i k change n) (back.1.off k (rw q)))
      ∙ +ℤ_idr (amount_at ys k)

  aim_in : in_range d (stream_of p i) aim ≡ true
  aim_in = let one : d * 1 ≡ d = omega arith in rw one at (times_range (stream_of p i) 1 (nearest (stream_of p i)) (nearest_in (stream_of p i) (w.each i l).ordered) d)

  moved_range : (k : ℕ) → k < count_of p → in_range d (stream_of p k) (amount_at moved k) ≡ true
  moved_range k h = by_cases (stream_of p k).metered
      (λ q. elim (ℕ_discrete i k) [
        | yes e ↦ subst (λ (j : ℕ). in_range d (stream_of p j) (amount_at moved j) ≡ true) e (subst (λ (z : ℤ). in_range d (stream_of p i) z ≡ true) (sym at_aim) aim_in)
        | no e ↦ subst (λ (z : ℤ). in_range d (stream_of p k) z ≡ true) (sym (elsewhere k h e q)) (range_of d p ys m.allowed k h)
      ])
      (λ q. range_holds d (stream_of p k) (amount_at moved k) (λ r. clash (stream_of p k).metered (and_left (stream_of p k).metered _ r) q))

  moved_allowed : allowed_over d p moved ≡ true
  moved_allowed = allowed_of d p moved moved_balanced moved_range

  abbrev share : List ℤ → ℕ → ℕ
  share xs k = share_over d (stream_of p k) (amount_at xs k)

  no_dearer : (k : ℕ) → k < count_of p → share moved k ≤ share ys k
  no_dearer k h = by_cases (stream_of p k).metered
      (λ q. elim (ℕ_discrete i k) [
        | yes e ↦ subst (λ (j : ℕ). share moved j ≤ share ys j) e
            (rw at_aim (mul-le-mul_left (weight_of (stream_of p i)) (nearest_least d (stream_of p i) (amount_at ys i) (range_of d p ys m.allowed i l))))
        | no e ↦ rw (elsewhere k h e q) (omega arith)
      ])
      (λ q. rw q (omega arith))

  abbrev gap : ℕ → ℤ
  gap = difference_at p w d ys m moved moved_allowed

  none : pos (share moved i) ≡ gap i +ℤ pos (share ys i)
  none =
      sum_tight (count_of p) (λ k. pos (share moved k)) (λ k. gap k +ℤ pos (share ys k)) (λ k h. omega (arith, no_dearer k h))
      (rw (sum_plus (count_of p) gap (λ k. pos (share ys k)), cost_sum p d ys m.allowed, cost_sum p d moved moved_allowed)
      (difference_cost p w d ys m moved moved_allowed)) i l

  -- So it was there.
  pub as_read : amount_at ys i ≡ pos d *ℤ nearest (stream_of p i)
  as_read =
      sym (minus_none (amount_at moved i) (amount_at ys i)
      (size_none _ (no_square (weight_of (stream_of p i)) _ (rw t ((w.each i l).weighed t)) (omega (arith, val _ _ none, no_dearer i l)))))
      ∙ at_aim

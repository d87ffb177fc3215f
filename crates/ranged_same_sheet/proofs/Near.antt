-- A plant without ranges: the zero flow costs so little that no flow that costs no more comes near the widest range.
use mathlib.Core.Path.{◌≡◌}
use mathlib.Core.Bool.{true, not, ◌&&◌}
use mathlib.Core.Logic.{⊎_elim}
use mathlib.Core.List.{List, [], ◌∷◌}
use lib.IntN.{ℤ, pos, nat_abs, ◌-ℤ◌, ◌*ℤ◌}
use Prim.Native.Nat.{ℕ, zero, suc, ◌+◌, ◌*◌, ◌≤◌, ◌<◌}
use native.Mathlib.Omega.{arith}
use native.Mathlib.Nat.{mul-le-mul, mul-le-mul_right}
use lib.Dec.{ltb}
use lib.ListN.{length, get_or}
use borrow.Author.Tests.{ltb-true, ltb-false, not-true}
use Rattle.num_bytes.specs.Choice.{pick}
use Rattle.num_bytes.specs.Inner.{values}
use Rattle.num_bytes.proofs.Tests.{by_cases, clash, picked, and_left, and_right}
use Rattle.plant_def.specs.declared.Stream.{Stream}
use Rattle.plant_def.specs.Limits.{max_streams, max_weight, max_reading, max_range}
use Rattle.plant_def.specs.Plants.{Plant, no_stream, limited}
use Rattle.plant_def.specs.Within.{Within, WithinStream}
use Rattle.flow_def.specs.Flows.{stream_at, amount_at, balanced, in_range, square, cost}
use Rattle.num_bytes.proofs.Integers.{size_val, minus_val, parts, one_times}
use Rattle.num_bytes.proofs.Sums.{sum_none}
use Rattle.flow_def.proofs.Nets.{count_of, stream_of, listed, listed_balanced}
use Rattle.flow_def.proofs.Ranges.{whole_holds}
use Rattle.flow_def.proofs.Routes.{brought_none}
use Rattle.ranged_def.specs.Moves.{widest_low, widest_high, widened}
use Rattle.ranged_def.specs.Trip.{rangeless}

-- The most that one stream of the zero flow may cost.
most_each : ℕ
most_each = max_weight * (max_reading * max_reading)

-- The most that the zero flow may cost: 96 streams of weight 1,000 that read 4,000,000.
pub most_cost : ℕ
most_cost = max_streams * most_each

square_most : (r : ℕ) → r ≤ max_reading → r * r ≤ max_reading * max_reading
square_most r h = mul-le-mul h h

zero_correction : (z : ℤ) → nat_abs (pos 0 -ℤ pos 1 *ℤ z) ≡ nat_abs z
zero_correction z = rw (one_times z)
    (let d = pos 0 -ℤ z in
    let a = minus_val (pos 0) z in
    let m = size_val d in
    let n = size_val z in
    ⊎_elim (λ k. ⊎_elim (λ j. omega arith) (λ j. omega arith) (parts z)) (λ k. ⊎_elim (λ j. omega arith) (λ j. omega arith) (parts z)) (parts d))

zero_cost : (n : ℕ) (s : Stream) → WithinStream n s → pick s.metered (s.weight * square (pos 0 -ℤ pos 1 *ℤ s.reading)) 0 ≤ most_each
unfolding most_each
zero_cost n s w =
    picked (λ (c : ℕ). c ≤ most_each) s.metered (s.weight * square (pos 0 -ℤ pos 1 *ℤ s.reading)) 0
    (λ m. let r = nat_abs s.reading in
    let q : square (pos 0 -ℤ pos 1 *ℤ s.reading) ≡ r * r = rw (zero_correction s.reading) in
    rw q (mul-le-mul (w.light m) (square_most r (w.within_range m))))
    (λ m. omega arith)

zero_costs : (n : ℕ) (ss : List Stream) → ((k : ℕ) → k < length ss → WithinStream n (get_or ss k no_stream))
    → cost ss (values (length ss) (λ k. pos 0)) ≤ length ss * most_each
zero_costs n [] h = omega arith
zero_costs n (s ∷ ss) h = omega (arith, zero_cost n s (h 0 (omega arith)), zero_costs n ss (λ k l. h (suc k) (omega arith)))

-- The zero flow: nothing on any stream.
abbrev pub zero_flow : Plant → List ℤ
zero_flow p = listed p (λ k. pos 0)

-- It costs no more than the most stated above,
pub zero_most : (p : Plant) → Within p → cost p.streams (zero_flow p) ≤ most_cost
unfolding most_cost
zero_most p w = omega (arith, zero_costs p.units p.streams w.each, mul-le-mul_right most_each w.few_streams)

-- and balances.
pub zero_balanced : (p : Plant) → balanced p (zero_flow p) ≡ true
zero_balanced p = listed_balanced p (λ k. pos 0) (λ u l. sum_none (length p.streams) _ (λ k m. brought_none u (stream_at p.streams k)))

-- Streams without a range.
pub rangeless_at : (ss : List Stream) → rangeless ss ≡ true → (k : ℕ) → k < length ss → not (limited (stream_at ss k)) ≡ true
rangeless_at [] e k l = absurd (omega arith)
rangeless_at (s ∷ ss) e zero l = and_left (not (limited s)) (rangeless ss) e
rangeless_at (s ∷ ss) e (suc k) l = rangeless_at ss (and_right (not (limited s)) (rangeless ss) e) k (omega arith)

-- On a stream without a range any amount is in range.
pub any_amount : (s : Stream) (x : ℤ) → not (limited s) ≡ true → in_range 1 s x ≡ true
any_amount s x n = whole_holds s x (λ q. clash (limited s) q (not-true (limited s) n))

-- An amount that the widest range holds.
pub in_widest : (s : Stream) (x : ℤ) → not (limited s) ≡ true → (s.metered ≡ true → nat_abs x ≤ max_range) → in_range 1 (widened s) x ≡ true
in_widest s x n h =
    picked (λ (t : Stream). in_range 1 t x ≡ true) (s.metered && not s.ranged) wide s
    (λ q. whole_holds wide x (λ l. let m = h (and_left s.metered (not s.ranged) q) in (omega (arith, size_val x), omega (arith, size_val x))))
    (λ q. any_amount s x n)
  where
    wide : Stream
    wide = record { from = s.from; to = s.to; metered = true; weight = s.weight; reading = s.reading; ranged = true; low = widest_low; high = widest_high }

-- What a metered stream costs is not above what all cost together.
cost_part : (ss : List Stream) (xs : List ℤ) → length xs ≡ length ss → (k : ℕ) → k < length ss → (stream_at ss k).metered ≡ true
    → (stream_at ss k).weight * square (amount_at xs k -ℤ pos 1 *ℤ (stream_at ss k).reading) ≤ cost ss xs
cost_part [] xs n k l m = absurd (omega arith)
cost_part (s ∷ ss) [] n k l m = absurd (omega arith)
cost_part (s ∷ ss) (x ∷ xs) n zero l m = rw m (omega arith)
cost_part (s ∷ ss) (x ∷ xs) n (suc k) l m = omega (arith, cost_part ss xs (omega arith) k (omega arith) m)

-- Above the root of most_cost.
abbrev root_most : ℕ
root_most = 1240000000

-- A root that is no more than so much.
root_near : (d : ℕ) → d * d ≤ most_cost → d < root_most
unfolding most_cost most_each
root_near d h = by_cases (ltb d root_most) (λ t. ltb-true d root_most t) (λ t. absurd (far (ltb-false d root_most t)))
  where
    far : root_most ≤ d → ⊥
    far l = let q : root_most * root_most ≤ d * d = mul-le-mul l l in omega (arith, q, h)

amount_size : (x r : ℤ) → nat_abs x ≤ nat_abs (x -ℤ pos 1 *ℤ r) + nat_abs r
amount_size x r = rw (one_times r)
    (let a = minus_val x r in
    let l = size_val x in
    let m = size_val r in
    let n = size_val (x -ℤ r) in
    ⊎_elim (λ k. omega arith) (λ k. omega arith) (parts x))

-- A flow that costs no more than the zero flow may stays within the widest range.
pub near : (p : Plant) → Within p → (xs : List ℤ) → length xs ≡ count_of p → cost p.streams xs ≤ most_cost
    → (k : ℕ) → k < count_of p → (stream_of p k).metered ≡ true → nat_abs (amount_at xs k) ≤ max_range
near p w xs n c k l m =
    let s = stream_of p k in
    let d = nat_abs (amount_at xs k -ℤ pos 1 *ℤ s.reading) in
    let part = cost_part p.streams xs n k l m in
    let root : d * d ≤ most_cost = omega (arith, part, c, mul-le-mul_right (d * d) ((w.each k l).weighed m)) in
    omega (arith, root_near d root, amount_size (amount_at xs k) s.reading, (w.each k l).within_range m)

-- A flow that passes the test of a certificate is the cheapest flow.
use mathlib.Core.Path.{◌≡◌, refl}
use mathlib.Core.Bool.{Bool, true, not, ◌&&◌, ◌||◌, false}
use mathlib.Core.List.{List}
use lib.IntN.{ℤ}
use lib.Signed.{le_z}
use Prim.Native.Nat.{ℕ, zero, suc, ◌<◌}
use native.Mathlib.Omega.{arith}
use native.Mathlib.Decide.{ℕ_discrete}
use borrow.Author.Tests.{eqb-true}
use lib.Dec.{eqb}
use Rattle.num_bytes.proofs.Tests.{and_left, and_right, and_both, by_cases, clash}
use Rattle.plant_def.specs.declared.Stream.{Stream}
use Rattle.plant_def.specs.Plants.{Plant, plant_fault}
use Rattle.plant_def.proofs.Limited.{within}
use Rattle.flow_def.specs.Flows.{amount_at, allowed, Cheapest}
use Rattle.flow_def.specs.Certificate.{climb, least_climb, most_climb, rises, falls, in_kilter, stays, every, listed_potential, certified}
use Rattle.num_bytes.proofs.Integers.{le_z_le, lt_z_lt, le_le_z}
use Rattle.flow_def.proofs.Ranges.{asked, answered}
use Rattle.flow_def.proofs.Potentials.{StepAt}
use Rattle.flow_def.proofs.Ties.{strict, stays_cheapest}
use Rattle.flow_def.proofs.Nets.{count_of, stream_of}

-- What holds of all numbers below n holds of each.
pub every_at : (n : ℕ) (test : ℕ → Bool) → every n test ≡ true → (k : ℕ) → k < n → test k ≡ true
every_at zero test e k l = absurd (omega arith)
every_at (suc n) test e k l = elim (ℕ_discrete k n) [
  | yes q ↦ rw q (and_left (test n) (every n test) e)
  | no q ↦ every_at n test (and_right (test n) (every n test) e) k (omega arith)
]

-- A test that holds of each.
pub every_all : (n : ℕ) (test : ℕ → Bool) → ((k : ℕ) → k < n → test k ≡ true) → every n test ≡ true
every_all zero test h = refl
every_all (suc n) test h = and_both (test n) _ (h n (omega arith)) (every_all n test (λ k l. h k (omega arith)))

-- A test that fails of one.
pub every_off : (n : ℕ) (test : ℕ → Bool) (k : ℕ) → k < n → test k ≡ false → every n test ≡ false
every_off n test k l t = by_cases (every n test) (λ e. clash (test k) (every_at n test e k l) t) (λ e. e)

-- Tests that agree.
pub every_same : (n : ℕ) (f g : ℕ → Bool) → ((k : ℕ) → k < n → f k ≡ g k) → every n f ≡ every n g
every_same zero f g h = refl
every_same (suc n) f g h = rw (h n (omega arith), every_same n f g (λ k l. h k (omega arith)))

-- What the test of potentials says.
pub kilter_says : (π : ℕ → ℤ) (s : Stream) (x : ℤ) → in_kilter π s x ≡ true → StepAt 1 π s x
kilter_says π s x e = record {
  low = λ t. le_z_le (least_climb s x) (climb π s) (asked (falls s x) _ (and_left (not (falls s x) || le_z (least_climb s x) (climb π s)) _ e) t);
  high = λ t. le_z_le (climb π s) (most_climb s x) (asked (rises s x) _ (and_right (not (falls s x) || le_z (least_climb s x) (climb π s)) _ e) t);
}

-- The step condition says that the stream is in kilter.
pub says_kilter : (π : ℕ → ℤ) (s : Stream) (x : ℤ) → StepAt 1 π s x → in_kilter π s x ≡ true
says_kilter π s x h =
    and_both _ _ (answered (falls s x) _ (λ t. le_le_z (least_climb s x) (climb π s) (h.low t)))
    (answered (rises s x) _ (λ t. le_le_z (climb π s) (most_climb s x) (h.high t)))

-- A flow that passes the test is the cheapest.
pub certified_cheapest : (p : Plant) (xs potentials : List ℤ) → certified p xs potentials ≡ true → Cheapest p xs
certified_cheapest p xs potentials e =
    stays_cheapest p (within p (eqb-true (plant_fault p) 0 (and_left (eqb (plant_fault p) 0) _ e))) π xs
    (record {
      balance = and_left (allowed p xs) _ rest;
      steps = λ k l. kilter_says π (s k) (amount_at xs k) (every_at n bounded (and_left (every n bounded) _ tests) k l);
    })
    (λ i l m.
    let t = asked (s i).metered _ (every_at n kept (and_right (every n bounded) _ tests) i l) m in
    strict (λ f. lt_z_lt (least_climb (s i) (amount_at xs i)) (climb π (s i)) (asked (falls (s i) (amount_at xs i)) _ t f)))
  where
    n : ℕ
    n = count_of p

    s : ℕ → Stream
    s = stream_of p

    π : ℕ → ℤ
    π = listed_potential potentials

    bounded : ℕ → Bool
    bounded k = in_kilter π (s k) (amount_at xs k)

    kept : ℕ → Bool
    kept i = not (s i).metered || stays π (s i) (amount_at xs i)

    rest : allowed p xs && (every n bounded && every n kept) ≡ true
    rest = and_right (eqb (plant_fault p) 0) _ e

    tests : every n bounded && every n kept ≡ true
    tests = and_right (allowed p xs) _ rest

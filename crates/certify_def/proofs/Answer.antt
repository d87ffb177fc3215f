-- The answer: what its 0 says, and the tests that the code makes in its place.
use mathlib.Core.Path.{◌≡◌, refl, sym, ◌∙◌, ap, ap₂, subst}
use mathlib.Core.Bool.{Bool, true, false, not, ◌&&◌, ◌||◌}
use mathlib.Core.List.{List}
use lib.IntN.{ℤ, pos, nat_abs}
use lib.Signed.{lt_z}
use Prim.Native.Nat.{ℕ, zero, suc, ◌+◌, ◌≤◌, ◌<◌}
use native.Mathlib.Omega.{arith}
use native.Mathlib.Decide.{ℕ_discrete}
use native.Mathlib.Numerals.{add-one}
use borrow.Author.Tests.{ltb-false, eq-eqb, eqb-false, leb-true, le-leb, not-false}
use lib.Dec.{eqb, ltb, leb}
use lib.ListN.{length, take, get_or}
use lib.Seq.{get_or-take, length-take-le}
use Rattle.num_bytes.specs.Choice.{refuse_if, first_of}
use Rattle.num_bytes.specs.Inner.{values}
use Rattle.num_bytes.proofs.Tests.{and_left, and_right, and_both, or_none_left, or_none_right, same_test, by_cases, clash}
use Rattle.num_bytes.proofs.Tests.{refuse_none, first_none_left, first_none_right, first_is, second_is, this_first}
use Rattle.num_bytes.proofs.Lists.{values_long, values_at}
use Rattle.num_bytes.proofs.Integers.{minus_none, none_minus}
use Rattle.num_bytes.proofs.Sums.{sum, sum_same}
use Rattle.plant_def.specs.declared.Stream.{Stream}
use Rattle.plant_def.specs.Limits.{max_streams}
use Rattle.plant_def.specs.Plants.{Plant, no_stream, units_fault}
use Rattle.plant_parts.specs.Parts.{Slices, parts_at, least}
use Rattle.flow_def.specs.Flows.{stream_at, amount_at, net_at, balanced_to, balanced, in_range, in_ranges, allowed}
use Rattle.flow_def.specs.Nets.{brought}
use Rattle.flow_def.specs.Certificate.{climb, in_kilter, every, listed_potential}
use Rattle.foreign_def.specs.Test.{flow_fits}
use Rattle.flow_def.proofs.Nets.{net_is, balanced_size}
use Rattle.flow_def.proofs.Potentials.{StepAt}
use Rattle.flow_def.proofs.Ranges.{ranges_at, ranges_all, balanced_of, range_of}
use Rattle.flow_def.proofs.Certified.{every_at, every_all, every_same, kilter_says, says_kilter}
use Rattle.foreign_def.proofs.Stepping.{step_level, level_step, between_step, step_bottom, step_top}
use Rattle.certify_def.specs.Number.{max_wide_weight, max_wide_reading, max_wide_flow, max_wide_number, wide_plant, shortest, wide_fault, wide_faults, flow_fault}
use Rattle.certify_def.specs.Says.{Vouched, Certifies, FlowSays}
use Rattle.certify_def.specs.Test.{WideWithin, AllWithin, all_small, flows_fit, net_to, nets_fit, rules_hold, certifies, flow_number}
use Rattle.certify_def.proofs.Sound.{vouched}

some_of : (w : ℕ) → eqb w 0 ≡ false → 1 ≤ w
some_of zero e = absurd (eqb-false 0 0 e refl)
some_of (suc w) e = omega arith

-- A stream without fault is within its limits.
pub wide_within : (n : ℕ) (s : Stream) → wide_fault n s ≡ 0 → WideWithin n s
wide_within n s e = record {
  from_in = ltb-false n s.from (or_none_left (ltb n s.from) (ltb n s.to) ends);
  to_in = ltb-false n s.to (or_none_right (ltb n s.from) (ltb n s.to) ends);
  weighty = λ m. some_of s.weight
      (or_none_left (eqb s.weight 0) (ltb max_wide_weight s.weight)
      (refuse_none _ 8 (first_none_left (refuse_if (eqb s.weight 0 || ltb max_wide_weight s.weight) 9) _ (meter m))));
  light = λ m. ltb-false max_wide_weight s.weight
      (or_none_right (eqb s.weight 0) (ltb max_wide_weight s.weight)
      (refuse_none _ 8 (first_none_left (refuse_if (eqb s.weight 0 || ltb max_wide_weight s.weight) 9) _ (meter m))));
  within_range = λ m. ltb-false max_wide_reading (nat_abs s.reading)
      (refuse_none _ 9 (first_none_left (refuse_if (ltb max_wide_reading (nat_abs s.reading)) 10) _
      (first_none_right (refuse_if (eqb s.weight 0 || ltb max_wide_weight s.weight) 9) _ (meter m))));
}
  where
    ends : ltb n s.from || ltb n s.to ≡ false
    ends = refuse_none _ 6 (first_none_left (refuse_if (ltb n s.from || ltb n s.to) 7) _ e)

    meter : s.metered ≡ true
        → first_of (refuse_if (eqb s.weight 0 || ltb max_wide_weight s.weight) 9)
        (first_of (refuse_if (ltb max_wide_reading (nat_abs s.reading)) 10) (refuse_if (s.ranged && lt_z s.high s.low) 18)) ≡ 0
    meter m = rw m at (first_none_right (refuse_if (eqb s.from s.to) 8) _ (first_none_right (refuse_if (ltb n s.from || ltb n s.to) 7) _ e))

-- No fault of the first c streams: none of each.
pub faults_none : (n : ℕ) (s : ℕ → Stream) (c : ℕ) → wide_faults n s c ≡ 0 → (k : ℕ) → k < c → wide_fault n (s k) ≡ 0
faults_none n s zero e k l = absurd (omega arith)
faults_none n s (suc c) e k l = elim (ℕ_discrete k c) [
  | yes q ↦ rw q (first_none_right (wide_faults n s c) _ e)
  | no q ↦ faults_none n s c (first_none_left (wide_faults n s c) _ e) k (omega arith)
]

-- They are all within their limits.
pub all_within : (n : ℕ) (s : ℕ → Stream) (c : ℕ) → wide_faults n s c ≡ 0 → AllWithin n s c
all_within n s c e k l = wide_within n (s k) (faults_none n s c e k l)

-- One more stream without fault.
pub faults_more : (n : ℕ) (s : ℕ → Stream) (k f : ℕ) → wide_faults n s k ≡ 0 → f ≡ wide_fault n (s k) → f ≡ 0 → wide_faults n s (k + 1) ≡ 0
faults_more n s k f e d z = rw (add-one k, e) (sym d ∙ z)

-- A fault after none: the first.
pub faults_here : (n : ℕ) (s : ℕ → Stream) (c k f : ℕ) → k < c → wide_faults n s k ≡ 0 → f ≡ wide_fault n (s k) → (f ≡ 0 → ⊥) → f ≡ wide_faults n s c
faults_here n s zero k f l e d z = absurd (omega arith)
faults_here n s (suc c) k f l e d z = elim (ℕ_discrete k c) [
  | yes q ↦ d ∙ ap (λ (j : ℕ). wide_fault n (s j)) q ∙ second_is (wide_faults n s c) _ (subst (λ (j : ℕ). wide_faults n s j ≡ 0) q e)
  | no q ↦ this_first f (wide_faults n s c) _ (faults_here n s c k f (omega arith) e d z) z
]

-- Streams that agree have the same faults.
pub faults_same : (n : ℕ) (s t : ℕ → Stream) (c : ℕ) → ((k : ℕ) → k < c → s k ≡ t k) → wide_faults n s c ≡ wide_faults n t c
faults_same n s t zero h = refl
faults_same n s t (suc c) h = ap₂ first_of (faults_same n s t c (λ k l. h k (omega arith))) (ap (wide_fault n) (h c (omega arith)))

-- The plant handed over: stream k.
handed_at : (n c : ℕ) (parts : Slices) (k : ℕ) → k < c → stream_at (wide_plant n c parts).streams k ≡ parts_at parts k
handed_at n c parts k l = values_at (parts_at parts) no_stream c k l

-- A 0 vouches for the flow.
pub zero_sound : (n c : ℕ) (parts : Slices) (flow numbers : List ℤ) → flow_number n c parts flow numbers ≡ 0 → Vouched (wide_plant n c parts) (take c flow)
zero_sound n c parts flow numbers e =
    vouched p (λ k l. let m : k < c = rw long at l in rw (handed_at n c parts k m) ((each k m).from_in, (each k m).to_in)) (listed_potential numbers) xs
    (record {
      balance = and_left (allowed p xs) _ rules;
      steps = λ k l. kilter_says (listed_potential numbers) (stream_at p.streams k) (amount_at xs k)
          (every_at (length p.streams) _ (and_right (allowed p xs) _ rules) k l);
    })
  where
    p : Plant
    p = wide_plant n c parts

    xs : List ℤ
    xs = take c flow

    long : length p.streams ≡ c
    long = values_long (parts_at parts) c

    after_short : ◌≡◌ {A = ℕ} (first_of (units_fault n) (first_of (refuse_if (ltb max_streams c) 5) (first_of (wide_faults n (parts_at parts) c) (refuse_if (not (certifies p xs numbers)) 26)))) 0
    after_short = first_none_right (refuse_if (ltb (least (shortest parts) (length flow)) c || ltb (length numbers) (suc n)) 1) _ e

    after_count : ◌≡◌ {A = ℕ} (first_of (wide_faults n (parts_at parts) c) (refuse_if (not (certifies p xs numbers)) 26)) 0
    after_count = first_none_right (refuse_if (ltb max_streams c) 5) _ (first_none_right (units_fault n) _ after_short)

    each : AllWithin n (parts_at parts) c
    each = all_within n (parts_at parts) c (first_none_left (wide_faults n (parts_at parts) c) _ after_count)

    all_rules : certifies p xs numbers ≡ true
    all_rules = not-false (certifies p xs numbers) (refuse_none _ 25 (first_none_right (wide_faults n (parts_at parts) c) _ after_count))

    rules : allowed p xs && every (length p.streams) (λ k. in_kilter (listed_potential numbers) (stream_at p.streams k) (amount_at xs k)) ≡ true
    rules = and_right (all_small (length xs) xs max_wide_flow && all_small (suc n) numbers max_wide_number) _ all_rules

-- The rules, computed.
module _ (p : Plant) (xs numbers : List ℤ) where
  abbrev s : ℕ → Stream
  s k = stream_at p.streams k

  abbrev π : ℕ → ℤ
  π = listed_potential numbers

  -- Where the test answers true the rules hold,
  pub certified : certifies p xs numbers ≡ true → Certifies p xs numbers
  certified t = record {
    small_flows = λ k l. leb-true _ max_wide_flow (every_at (length xs) _ (and_left (all_small (length xs) xs max_wide_flow) _ sizes) k (rw size l));
    small_numbers = λ u l. leb-true _ max_wide_number (every_at (suc p.units) (λ v. leb (nat_abs (π v)) max_wide_number) (and_right (all_small (length xs) xs max_wide_flow) _ sizes) u (omega arith));
    balance = ranged;
    from_bottom = λ k i. step_bottom π (s k) (amount_at xs k) i.1 (range_of 1 p xs ranged k i.0) (steps k i.0);
    to_top = λ k i. step_top π (s k) (amount_at xs k) i.1 (range_of 1 p xs ranged k i.0) (steps k i.0);
    equal = λ k i. sym (minus_none (π (s k).to) (π (s k).from) (step_level π (s k) i.1 (amount_at xs k) (steps k i.0)));
  }
    where
      sizes : all_small (length xs) xs max_wide_flow && all_small (suc p.units) numbers max_wide_number ≡ true
      sizes = and_left (all_small (length xs) xs max_wide_flow && all_small (suc p.units) numbers max_wide_number) _ t

      rules : allowed p xs && every (length p.streams) (λ k. in_kilter π (s k) (amount_at xs k)) ≡ true
      rules = and_right (all_small (length xs) xs max_wide_flow && all_small (suc p.units) numbers max_wide_number) _ t

      ranged : allowed p xs ≡ true
      ranged = and_left (allowed p xs) _ rules

      size : length xs ≡ length p.streams
      size = balanced_size p xs (balanced_of 1 p xs ranged)

      steps : (k : ℕ) → k < length p.streams → StepAt 1 π (s k) (amount_at xs k)
      steps k l = kilter_says π (s k) (amount_at xs k) (every_at (length p.streams) _ (and_right (allowed p xs) _ rules) k l)

  -- and where they hold it does.
  pub tested : Certifies p xs numbers → certifies p xs numbers ≡ true
  tested c =
      and_both _ _
      (and_both _ _ (every_all (length xs) _ (λ k l. le-leb _ max_wide_flow (c.small_flows k (rw size at l))))
      (every_all (suc p.units) _ (λ u l. le-leb _ max_wide_number (c.small_numbers u (omega arith)))))
      (and_both _ _ c.balance (every_all (length p.streams) _ (λ k l. says_kilter π (s k) (amount_at xs k) (step k l))))
    where
      size : length xs ≡ length p.streams
      size = balanced_size p xs (balanced_of 1 p xs c.balance)

      step : (k : ℕ) → k < length p.streams → StepAt 1 π (s k) (amount_at xs k)
      step k l = by_cases (s k).metered
          (λ m. between_step π (s k) (amount_at xs k) m (c.from_bottom k (l, m)) (c.to_top k (l, m)))
          (λ m. level_step π (s k) m (amount_at xs k) (none_minus (π (s k).to) (π (s k).from) (sym (c.equal k (l, m)))))

first_again : (a b d : ℕ) → first_of a (first_of b d) ≡ first_of (first_of a b) d
first_again zero b d = refl
first_again (suc a) b d = refl

-- The answer is the call's fault, then that of the rules.
number_is : (n c : ℕ) (parts : Slices) (flow numbers : List ℤ)
    → flow_number n c parts flow numbers
    ≡ first_of (flow_fault n c parts (length flow) (length numbers)) (refuse_if (not (certifies (wide_plant n c parts) (take c flow) numbers)) 26)
number_is n c parts flow numbers =
    ap (λ (x : ℕ). first_of short (first_of (units_fault n) x)) (first_again many (wide_faults n (parts_at parts) c) rest)
    ∙ ap (first_of short) (first_again (units_fault n) (first_of many (wide_faults n (parts_at parts) c)) rest)
    ∙ first_again short (first_of (units_fault n) (first_of many (wide_faults n (parts_at parts) c))) rest
  where
    short : ℕ
    short = refuse_if (ltb (least (shortest parts) (length flow)) c || ltb (length numbers) (suc n)) 1

    many : ℕ
    many = refuse_if (ltb max_streams c) 5

    rest : ℕ
    rest = refuse_if (not (certifies (wide_plant n c parts) (take c flow) numbers)) 26

-- What the number says.
pub says_of : (n c : ℕ) (parts : Slices) (flow numbers : List ℤ) (r : ℕ) → r ≡ flow_number n c parts flow numbers → FlowSays n c parts flow numbers r
says_of n c parts flow numbers r e = record {
  fault = λ z. is ∙ sym (first_is f rest z);
  passed = λ z h. is ∙ sym (second_is f rest z) ∙ rw (tested p xs numbers h);
  broken = λ z h. is ∙ sym (second_is f rest z) ∙ by_cases (certifies p xs numbers) (λ t. absurd (h (certified p xs numbers t))) (λ t. rw t);
  sound = λ z. zero_sound n c parts flow numbers (sym e ∙ z);
}
  where
    p : Plant
    p = wide_plant n c parts

    xs : List ℤ
    xs = take c flow

    f : ℕ
    f = flow_fault n c parts (length flow) (length numbers)

    rest : ℕ
    rest = refuse_if (not (certifies (wide_plant n c parts) (take c flow) numbers)) 26

    is : r ≡ first_of f rest
    is = e ∙ number_is n c parts flow numbers

-- The number is said.
pub said_is : (n c : ℕ) (parts : Slices) (flow numbers : List ℤ) (r : ℕ) → FlowSays n c parts flow numbers r → r ≡ flow_number n c parts flow numbers
said_is n c parts flow numbers r s =
    elim (ℕ_discrete (flow_fault n c parts (length flow) (length numbers)) 0) [
      | yes z ↦ by_cases (certifies (wide_plant n c parts) (take c flow) numbers)
          (λ t. s.passed z (certified (wide_plant n c parts) (take c flow) numbers t) ∙ sym (number_is n c parts flow numbers ∙ sym (second_is f _ z) ∙ rw t))
          (λ t. s.broken z (λ h. clash (certifies (wide_plant n c parts) (take c flow) numbers) (tested (wide_plant n c parts) (take c flow) numbers h) t)
          ∙ sym (number_is n c parts flow numbers ∙ sym (second_is f _ z) ∙ rw t))
      | no z ↦ s.fault z ∙ sym (number_is n c parts flow numbers ∙ sym (first_is f _ z))
    ]
  where
    f : ℕ
    f = flow_fault n c parts (length flow) (length numbers)

-- Units of which each net is 0, by sums.
balanced_by : (n : ℕ) (ss : List Stream) (xs : List ℤ) → balanced_to n ss xs ≡ every n (λ u. eqb (nat_abs (net_at (suc u) ss xs)) 0)
balanced_by zero ss xs = refl
balanced_by (suc n) ss xs = ap (λ (b : Bool). eqb (nat_abs (net_at (suc n) ss xs)) 0 && b) (balanced_by n ss xs)

-- The rules as the code tests them, over streams s that are those handed over.
module _ (n c : ℕ) (parts : Slices) (flow numbers : List ℤ) (long : c ≤ length flow) (s : ℕ → Stream) (h : (k : ℕ) → k < c → s k ≡ parts_at parts k) where
  abbrev p : Plant
  p = wide_plant n c parts

  abbrev xs : List ℤ
  xs = take c flow

  size : length xs ≡ c
  size = length-take-le c flow long

  count : length p.streams ≡ c
  count = values_long (parts_at parts) c

  amount : (k : ℕ) → k < c → amount_at xs k ≡ amount_at flow k
  amount k l = get_or-take c flow k (pos 0) l

  stream : (k : ℕ) → k < c → stream_at p.streams k ≡ s k
  stream k l = handed_at n c parts k l ∙ sym (h k l)

  small_same : all_small (length xs) xs max_wide_flow ≡ all_small c flow max_wide_flow
  small_same = ap (λ (m : ℕ). all_small m xs max_wide_flow) size
      ∙ every_same c (λ k. leb (nat_abs (amount_at xs k)) max_wide_flow) _ (λ k l. ap (λ (z : ℤ). leb (nat_abs z) max_wide_flow) (amount k l))

  net_same : (u : ℕ) → net_at u p.streams xs ≡ net_to s (amount_at flow) u c
  net_same u =
      net_is u p.streams xs (size ∙ sym count)
      ∙ ap (λ (m : ℕ). sum m (λ k. brought u (stream_at p.streams k) (amount_at xs k))) count
      ∙ sum_same c _ _ (λ k l. ap₂ (brought u) (stream k l) (amount k l))

  balanced_same : balanced p xs ≡ nets_fit s (amount_at flow) c n
  unfolding nets_fit
  balanced_same =
      ap (λ (b : Bool). b && balanced_to n p.streams xs) (eq-eqb (length xs) (length p.streams) (size ∙ sym count))
      ∙ balanced_by n p.streams xs
      ∙ every_same n _ _ (λ u l. ap (λ (z : ℤ). eqb (nat_abs z) 0) (net_same (suc u)))

  abbrev kilter : ℕ → Bool
  kilter k = in_kilter (listed_potential numbers) (stream_at p.streams k) (amount_at xs k)

  abbrev fits : ℕ → Bool
  fits k = flow_fits (s k) (amount_at flow k) (climb (listed_potential numbers) (s k))

  fits_is : (k : ℕ) → k < c → fits k ≡ in_range 1 (stream_at p.streams k) (amount_at xs k) && kilter k
  fits_is k l = sym (ap₂ (λ (t : Stream) (x : ℤ). flow_fits t x (climb (listed_potential numbers) t)) (stream k l) (amount k l))

  ranges_same : in_ranges 1 p.streams xs && every (length p.streams) kilter ≡ flows_fit s (amount_at flow) numbers c
  unfolding flows_fit
  ranges_same =
      same_test _ (every c fits)
      (λ t. every_all c fits (λ k l. let m : k < length p.streams = rw count l in fits_is k l ∙ and_both _ _
      (ranges_at 1 p.streams xs (size ∙ sym count) (and_left (in_ranges 1 p.streams xs) _ t) k m)
      (every_at (length p.streams) kilter (and_right (in_ranges 1 p.streams xs) _ t) k m)))
      (λ t. and_both _ _
      (ranges_all 1 p.streams xs (size ∙ sym count) (λ k m. and_left _ (kilter k) (fitting t k m)))
      (every_all (length p.streams) kilter (λ k m. and_right (in_range 1 (stream_at p.streams k) (amount_at xs k)) (kilter k) (fitting t k m))))
    where
      fitting : every c fits ≡ true → (k : ℕ) → k < length p.streams → in_range 1 (stream_at p.streams k) (amount_at xs k) && kilter k ≡ true
      fitting t k m = let l : k < c = rw count at m in sym (fits_is k l) ∙ every_at c fits t k l

  -- The rules, by what the code tests.
  pub rules_by : certifies p xs numbers ≡ rules_hold n c s flow numbers
  rules_by =
      ap₂ ◌&&◌ (ap (λ (b : Bool). b && all_small (suc n) numbers max_wide_number) small_same)
      (and_assoc (balanced p xs) (in_ranges 1 p.streams xs) _ ∙ ap₂ ◌&&◌ balanced_same ranges_same)
    where
      and_assoc : (a b d : Bool) → (a && b) && d ≡ a && (b && d)
      and_assoc true b d = refl
      and_assoc false b d = refl

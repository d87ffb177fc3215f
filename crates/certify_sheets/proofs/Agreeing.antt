-- What a sheet of a plant file shows passes the check of a flow, over the plant's parts, with our numbers of the places.
use mathlib.Core.Path.{◌≡◌, refl, sym, ◌∙◌, ap, subst}
use mathlib.Core.Logic.{◌⊎◌}
use mathlib.Core.Bool.{Bool, true, false, ◌&&◌, ◌||◌}
use mathlib.Core.List.{List}
use lib.IntN.{ℤ, pos, nat_abs}
use lib.Signed.{lt_z, le_z}
use Prim.Native.Nat.{ℕ, zero, suc, ◌≤◌, ◌<◌}
use native.Mathlib.Omega.{arith}
use borrow.Author.Tests.{ne_eqb, le-ltb}
use lib.Dec.{eqb, ltb}
use lib.ListN.{length, take}
use lib.Seq.{ext_get_or, take_all}
use Rattle.num_bytes.specs.Choice.{pick, refuse_if, first_of}
use Rattle.num_bytes.specs.Inner.{values}
use Rattle.num_bytes.proofs.Integers.{le_z_le, lt_z_lt, one_times, pos_inj, none_minus}
use Rattle.num_bytes.proofs.Lists.{values_long, values_at}
use Rattle.num_bytes.proofs.Sums.{sum_same}
use Rattle.num_bytes.proofs.Tests.{by_cases, clash, picked}
use Rattle.plant_def.specs.declared.Stream.{Stream}
use Rattle.plant_def.specs.Limits.{max_units, max_streams}
use Rattle.plant_def.specs.Plants.{Plant, no_stream, limited, units_fault}
use Rattle.plant_def.specs.Within.{WithinStream, Within}
use Rattle.plant_def.specs.Files.{Got, got, read_plant}
use Rattle.plant_def.proofs.Accepted.{read_within}
use Rattle.plant_parts.specs.Parts.{Slices, parts_at, least}
use Rattle.flow_def.specs.declared.Class.{Class}
use Rattle.flow_def.specs.declared.Class.TheVariants.{Adjusted, AsRead, Given, Withheld}
use Rattle.flow_def.specs.Flows.{stream_at, amount_at, in_range, allowed, cost, OfLeastCost, Cheapest}
use Rattle.flow_def.specs.Classes.{class_of}
use Rattle.flow_def.proofs.Nets.{balanced_size}
use Rattle.flow_def.proofs.Given.{class_means}
use Rattle.flow_def.proofs.Ranges.{allowed_of, range_of, balanced_of}
use Rattle.flow_def.proofs.Potentials.{StepAt, Certificate, share, cost_one}
use Rattle.sheet_def.specs.Sheets.{SheetParts, known}
use Rattle.sheet_def.specs.Sentences.{MeteredAt, class_on, number_on, Tells}
use Rattle.foreign_def.specs.Passing.{place_number, difference, bottom, top, AtLow, AtHigh, Passes}
use Rattle.foreign_def.specs.Says.{ShowsFlow, OtherFlow}
use Rattle.foreign_def.specs.Numbers.{PlaceNumbers, numbers_in, NumbersWith, NumbersSay}
use Rattle.foreign_def.proofs.Stepping.{level_step, between_step}
use Rattle.foreign_def.proofs.Meeting.{unknown_withheld, known_few}
use Rattle.foreign_def.proofs.Passing.{told_class}
use Rattle.certify_def.specs.Number.{max_wide_weight, max_wide_reading, max_wide_flow, wide_plant, shortest, wide_fault, wide_faults, flow_fault}
use Rattle.certify_def.specs.Says.{Certifies, FlowSays}
use Rattle.certify_sheets.specs.Promise.{HandsOver, Shown}

-- Tests of which none holds.
neither : (a b : Bool) → a ≡ false → b ≡ false → a || b ≡ false
neither a b p q = rw (p, q)

not_both : (a b : Bool) → (a ≡ true → b ≡ false) → a && b ≡ false
not_both true b h = h refl
not_both false b h = refl

none_held : (a b m c d e : Bool) → a ≡ false → b ≡ false → (m ≡ true → (c ≡ false) × (d ≡ false) × (e ≡ false))
    → first_of (refuse_if a 7) (first_of (refuse_if b 8) (pick m (first_of (refuse_if c 9) (first_of (refuse_if d 10) (refuse_if e 18))) 0)) ≡ 0
none_held a b true c d e p q h = let t = h refl in rw (p, q, t.0, t.1, t.2)
none_held a b false c d e p q h = rw (p, q)

-- A stream of a plant within its limits has no fault as a stream of wide numbers,
no_fault : (n : ℕ) (s : Stream) → WithinStream n s → wide_fault n s ≡ 0
no_fault n s w =
    none_held _ _ s.metered _ _ _ (neither _ _ (le-ltb n s.from w.from_in) (le-ltb n s.to w.to_in)) (ne_eqb s.from s.to w.distinct)
    (λ m. (
      neither _ _ (ne_eqb s.weight 0 (λ z. omega (arith, w.weighed m))) (le-ltb max_wide_weight s.weight (omega (arith, w.light m))),
      le-ltb max_wide_reading (nat_abs s.reading) (omega (arith, w.within_range m)),
      not_both s.ranged _ (λ r. in_order (rw (m, r))),
    ))
  where
    in_order : limited s ≡ true → lt_z s.high s.low ≡ false
    in_order l = by_cases (lt_z s.high s.low)
        (λ t. absurd (omega (arith, lt_z_lt s.high s.low t, le_z_le s.low s.high (w.ordered l))))
        (λ t. t)

-- nor have all of them.
no_faults : (n : ℕ) (s : ℕ → Stream) (c : ℕ) → ((k : ℕ) → k < c → wide_fault n (s k) ≡ 0) → wide_faults n s c ≡ 0
no_faults n s zero h = refl
no_faults n s (suc c) h = ap (λ (f : ℕ). first_of f (wide_fault n (s c))) (no_faults n s c (λ k l. h k (omega arith))) ∙ h c (omega arith)

at_least : (a b c : ℕ) → c ≤ a → c ≤ b → c ≤ least a b
at_least a b c h k = picked (λ m. c ≤ m) (ltb a b) a b (λ t. h) (λ t. k)

no_first : (a b : Bool) (u w : ℕ) (d : Bool) → a ≡ false → b ≡ false → u ≡ 0 → d ≡ false → w ≡ 0 → first_of (refuse_if (a || b) 1) (first_of u (first_of (refuse_if d 5) w)) ≡ 0
no_first a b u w d p q r s t = rw (p, q, r, s) t

no_units_fault : (n : ℕ) → 1 ≤ n → n ≤ max_units → units_fault n ≡ 0
no_units_fault n h k = ap (λ (b : Bool). refuse_if b 6) (neither (eqb n 0) (ltb max_units n) (ne_eqb n 0 (λ z. omega arith)) (le-ltb max_units n k))

-- Slices that hand over the streams of a plant.
module _ (p : Plant) (w : Within p) (parts : Slices) (h : HandsOver p parts) where
  abbrev c : ℕ
  c = length p.streams

  -- The plant that they hand over is that one.
  same_plant : wide_plant p.units (length p.streams) parts ≡ p
  same_plant = ap (λ (ss : List Stream). record { units = p.units; streams = ss })
      (ext_get_or no_stream (values c (parts_at parts)) p.streams (values_long (parts_at parts) c)
      (λ k l. let m : k < c = rw (values_long (parts_at parts) c) at l in values_at (parts_at parts) no_stream c k m ∙ h.same k m))

  -- It has no fault.
  whole : (flows numbers : ℕ) → c ≤ flows → p.units < numbers → flow_fault p.units (length p.streams) parts flows numbers ≡ 0
  whole flows numbers f m =
      no_first _ _ _ _ _ (le-ltb (least (shortest parts) flows) c (at_least (shortest parts) flows c h.reach f)) (le-ltb numbers (suc p.units) (omega arith))
      (no_units_fault p.units w.some_units w.few_units) (le-ltb max_streams c w.few_streams)
      (no_faults p.units (parts_at parts) c (λ k l. ap (wide_fault p.units) (h.same k l) ∙ no_fault p.units (stream_at p.streams k) (w.each k l)))

-- A stream without a meter has no part in the cost.
no_share : (s : Stream) (x : ℤ) → s.metered ≡ false → share s x ≡ 0
no_share s x m = rw m (omega arith)

-- A flow that a sheet of a plant shows.
module _ (p : Plant) (w : Within p) (sheet : SheetParts) (t : Tells p sheet) (flow : List ℤ) (h : Shown p sheet flow) where
  abbrev s : ℕ → Stream
  s k = stream_at p.streams k

  abbrev xs : List ℤ
  xs = t.some.0

  abbrev cheap : Cheapest p t.some.0
  cheap = t.some.1

  metered_same : (k : ℕ) → MeteredAt p k → number_on sheet k ≡ amount_at flow k
  metered_same k i = sym (h.meters k i ∙ one_times (number_on sheet k))

  -- Its metered amounts are those of the cheapest flow,
  alike : (k : ℕ) → MeteredAt p k → amount_at t.some.0 k ≡ amount_at flow k
  alike k i = sym (t.metered xs cheap k i) ∙ metered_same k i

  -- so it is in range,
  in_ranges : (k : ℕ) → k < length p.streams → in_range 1 (stream_at p.streams k) (amount_at flow k) ≡ true
  in_ranges k l = by_cases (s k).metered
      (λ m. subst (λ (z : ℤ). in_range 1 (stream_at p.streams k) z ≡ true) (alike k (l, m)) (range_of 1 p xs cheap.balance k l))
      (λ m. rw m)

  ranged : allowed p flow ≡ true
  ranged = allowed_of 1 p flow h.balance in_ranges

  -- of the same cost,
  same_cost : cost p.streams flow ≡ cost p.streams t.some.0
  same_cost = pos_inj (cost_one p.streams flow (balanced_size p flow h.balance)
      ∙ sum_same (length p.streams) _ _ (λ k l. by_cases (s k).metered
      (λ m. ap (λ (z : ℤ). pos (share (stream_at p.streams k) z)) (sym (alike k (l, m))))
      (λ m. ap pos (no_share (s k) (amount_at flow k) m ∙ sym (no_share (s k) (amount_at xs k) m))))
      ∙ sym (cost_one p.streams xs (balanced_size p xs (balanced_of 1 p xs cheap.balance))))

  -- and of least cost.
  least_cost : OfLeastCost p flow
  least_cost = record { balance = ranged; least = λ ys b. rw same_cost (cheap.least ys b) }

  -- The sheet shows it.
  shows : ShowsFlow p sheet flow
  shows k l n = by_cases (s k).metered (λ m. metered_same k (l, m)) (λ m. go m (class_on sheet k) refl)
    where
      go : (stream_at p.streams k).metered ≡ false → (c : Class) → class_on sheet k ≡ c → number_on sheet k ≡ amount_at flow k
      go m Adjusted e = clash (s k).metered (class_means p k Adjusted (sym (told_class p w sheet t k l) ∙ e)).0 m
      go m AsRead e = clash (s k).metered (class_means p k AsRead (sym (told_class p w sheet t k l) ∙ e)).0 m
      go m Given e = sym (t.number k 1 flow (l, m) e h.balance h.meters ∙ one_times (number_on sheet k))
      go m Withheld e = absurd (n e)

  -- So the sheet is one of those with which our numbers pass.
  other : OtherFlow p sheet
  other = record {
    ours = (sheet, t, record { count = refl; classes = λ k l. refl; degrees = refl; cost = refl; verdict = refl });
    flow = flow;
    least = least_cost;
    shows = shows;
  }

  -- With numbers that pass it the flow is certified.
  module _ (numbers : List ℤ) (g : Passes p sheet numbers) where
    abbrev π : ℕ → ℤ
    π = place_number numbers

    low : (k : ℕ) → MeteredAt p k → AtLow (s k) (amount_at flow k) ⊎ (le_z (bottom (s k) (amount_at flow k)) (difference numbers (s k)) ≡ true)
    low k i = subst (λ (z : ℤ). AtLow (s k) z ⊎ (le_z (bottom (s k) z) (difference numbers (s k)) ≡ true)) (metered_same k i) (g.from_bottom k i)

    high : (k : ℕ) → MeteredAt p k → AtHigh (s k) (amount_at flow k) ⊎ (le_z (difference numbers (s k)) (top (s k) (amount_at flow k)) ≡ true)
    high k i = subst (λ (z : ℤ). AtHigh (s k) z ⊎ (le_z (difference numbers (s k)) (top (s k) z) ≡ true)) (metered_same k i) (g.to_top k i)

    step : (k : ℕ) → k < length p.streams → StepAt 1 (place_number numbers) (stream_at p.streams k) (amount_at flow k)
    step k l = by_cases (s k).metered
        (λ m. between_step π (s k) (amount_at flow k) m (low k (l, m)) (high k (l, m)))
        (λ m. level_step π (s k) m (amount_at flow k) (none_minus (π (s k).to) (π (s k).from) (sym (g.equal k (l, m)))))

    certificate : Certificate p flow (place_number numbers)
    certificate = record { balance = ranged; steps = step }

    -- No amount that the sheet shows is large.
    small : (k : ℕ) → k < length p.streams → nat_abs (amount_at flow k) ≤ max_wide_flow
    small k l = by_cases (known (class_of p k))
        (λ e. omega (arith, known_few p w π flow certificate k l e))
        (λ e. h.small k l (told_class p w sheet t k l ∙ unknown_withheld (class_of p k) e))

    certifies : Certifies p flow numbers
    certifies = record {
      small_flows = small;
      small_numbers = λ u l. omega (arith, g.small u l);
      balance = ranged;
      from_bottom = low;
      to_top = high;
      equal = λ k i. g.equal k i;
    }

-- The check agrees with the sheet call.
pub agrees : (file : List ℕ) (p : Plant) (sheet : SheetParts) (flow : List ℤ) (q : PlaceNumbers) (parts : Slices) (r : ℕ)
    → read_plant file ≡ got p → Tells p sheet → Shown p sheet flow → NumbersSay file q → HandsOver p parts
    → FlowSays p.units (length p.streams) parts flow (numbers_in q) r → r ≡ 0
agrees file p sheet flow q parts r e t h n o says =
    says.passed (whole p w parts o (length flow) (length (numbers_in q)) (omega (arith, long)) (omega (arith, g.one_each)))
    (subst (λ (p : Plant). Certifies p (take c flow) (numbers_in q)) (sym (same_plant p w parts o))
    (subst (λ (xs : List ℤ). Certifies p xs (numbers_in q)) (sym (take_all c flow (omega (arith, long)))) (certifies p w sheet t flow h (numbers_in q) g)))
  where
    c : ℕ
    c = length p.streams

    w : Within p
    w = read_within file p e

    long : length flow ≡ length p.streams
    long = balanced_size p flow h.balance

    g : Passes p sheet (numbers_in q)
    g = ((subst (λ (g : Got). NumbersWith g q) e n).some t.some.0 t.some.1.balance).serve sheet (other p w sheet t flow h)

-- Slices that reach, streams gathered from them, and the answer by what was tested.
use mathlib.Core.Path.{◌≡◌, sym, ◌∙◌, ap, ap₂}
use mathlib.Core.Bool.{Bool, true, false, not, ◌||◌}
use mathlib.Core.List.{List}
use lib.IntN.{ℤ}
use Prim.Native.Nat.{ℕ, zero, suc, min, ◌+◌, ◌≤◌, ◌<◌}
use native.Mathlib.Omega.{arith}
use borrow.Author.Count.{below_more}
use borrow.Author.Tests.{ltb-true, ltb-false}
use lib.Dec.{eqb, ltb}
use lib.ListN.{length, take, set}
use lib.Seq.{get_or-set_same, get_or-set_other}
use Rattle.num_bytes.specs.Choice.{refuse_if, first_of}
use Rattle.num_bytes.proofs.Tests.{by_cases, or_none_left, or_none_right, refuse_none, first_none_left, first_none_right}
use Rattle.plant_def.specs.Limits.{max_units, max_streams}
use Rattle.plant_def.specs.Plants.{units_fault}
use Rattle.plant_parts.specs.Parts.{Slices, parts_at, least}
use Rattle.plant_parts.specs.Inner.{meter_at, range_at}
use Rattle.plant_parts.proofs.Gather.{least_left, least_right}
use Rattle.plant_def.specs.declared.Stream.{Stream}
use Rattle.flow_def.specs.Flows.{amount_at}
use Rattle.certify_def.specs.declared.WideStream.{WideStream}
use Rattle.certify_def.specs.Number.{max_wide_flow, max_wide_number, shortest, wide_faults, wide_plant}
use Rattle.certify_def.specs.Test.{plainly, no_wide, wide_at, Gathered, Handed, call_number, all_small, nets_fit, flows_fit, rules_hold, certifies, flow_number}
use Rattle.certify_def.proofs.Answer.{faults_same, rules_by}

-- The least of two lengths.
pub least_is : (a b : ℕ) → min a b ≡ least a b
least_is a b = by_cases (ltb a b) (λ t. rw t (omega (arith, ltb-true a b t))) (λ f. rw f (omega (arith, ltb-false a b f)))

-- So it is with numbers that are least themselves.
pub by_min : {a b r x y : ℕ} → r ≡ min a b → a ≡ x → b ≡ y → r ≡ least x y
by_min {a} {b} e f g = e ∙ least_is a b ∙ ap₂ least f g

-- Every slice reaches so many streams.
pub record There (p : Slices) (c : ℕ) : Type 0 where
  pub from_there : c ≤ length p.from
  pub to_there : c ≤ length p.to
  pub metered_there : c ≤ length p.metered
  pub weight_there : c ≤ length p.weight
  pub reading_there : c ≤ length p.reading
  pub ranged_there : c ≤ length p.ranged
  pub low_there : c ≤ length p.low
  pub high_there : c ≤ length p.high

-- So it is where the shortest does.
pub there : (p : Slices) (c : ℕ) → c ≤ shortest p → There p c
there p c h =
    let f = least (length p.from) (length p.to) in
    let m = least (length p.metered) (length p.weight) in
    let r = least (length p.reading) (length p.ranged) in
    let e = least (length p.low) (length p.high) in
    let a : c ≤ least f m = omega (arith, least_left (least f m) (least r e)) in
    let b : c ≤ least r e = omega (arith, least_right (least f m) (least r e)) in
    record {
      from_there = omega (arith, least_left f m, least_left (length p.from) (length p.to));
      to_there = omega (arith, least_left f m, least_right (length p.from) (length p.to));
      metered_there = omega (arith, least_right f m, least_left (length p.metered) (length p.weight));
      weight_there = omega (arith, least_right f m, least_right (length p.metered) (length p.weight));
      reading_there = omega (arith, least_left r e, least_left (length p.reading) (length p.ranged));
      ranged_there = omega (arith, least_left r e, least_right (length p.reading) (length p.ranged));
      low_there = omega (arith, least_right r e, least_left (length p.low) (length p.high));
      high_there = omega (arith, least_right r e, least_right (length p.low) (length p.high));
    }

-- One stream more in the array.
pub gathered_more : (streams : List WideStream) (f : ℕ → Stream) (k : ℕ) (s : WideStream) → k < length streams → Gathered streams f k → plainly s ≡ f k
    → Gathered (set streams k s) f (k + 1)
gathered_more streams f k s l h e =
    below_more _ k (λ j m. ap plainly (get_or-set_other streams k j s no_wide (λ q. omega arith)) ∙ h j m) (ap plainly (get_or-set_same streams k s no_wide l) ∙ e)

-- Meters, then their ranges: the streams that the slices hand over.
pub both_gathered : (p : Slices) (c : ℕ) (meters streams : List WideStream)
    → Gathered meters (meter_at p.from p.to p.metered p.weight p.reading) c
    → Gathered streams (λ k. range_at p.ranged p.low p.high (wide_at meters k) k) c → Handed streams p c
both_gathered p c meters streams h g k l = g k l ∙ ap (λ (s : Stream). range_at p.ranged p.low p.high s k) (h k l)

-- What holds where the answer before the streams are looked at is 0.
pub record Past (n c reach numbers : ℕ) : Type 0 where
  pub units_few : n ≤ max_units
  pub streams_few : c ≤ max_streams
  pub reaching : c ≤ reach
  pub numbers_there : n < numbers

-- Of a 0.
pub past : (n c reach numbers f : ℕ) → f ≡ call_number n c reach numbers → f ≡ 0 → Past n c reach numbers
past n c reach numbers f e z =
    let long : ltb reach c || ltb numbers (suc n) ≡ false = refuse_none _ 0 (first_none_left (refuse_if (ltb reach c || ltb numbers (suc n)) 1) _ (sym e ∙ z)) in
    let rest : first_of (units_fault n) (refuse_if (ltb max_streams c) 5) ≡ 0 = first_none_right (refuse_if (ltb reach c || ltb numbers (suc n)) 1) _ (sym e ∙ z) in
    record {
      units_few = ltb-false max_units n (or_none_right (eqb n 0) (ltb max_units n) (refuse_none (eqb n 0 || ltb max_units n) 5 (first_none_left (units_fault n) _ rest)));
      streams_few = ltb-false max_streams c (refuse_none _ 4 (first_none_right (units_fault n) _ rest));
      reaching = ltb-false reach c (or_none_left (ltb reach c) (ltb numbers (suc n)) long);
      numbers_there = omega (arith, ltb-false numbers (suc n) (or_none_right (ltb reach c) (ltb numbers (suc n)) long));
    }

-- A first answer that is one stays; after 0 the rest decides.
early : (a b d r f : ℕ) → f ≡ first_of a (first_of b d) → (f ≡ 0 → ⊥) → f ≡ first_of a (first_of b (first_of d r))
early zero zero zero r f e n = absurd (n e)
early zero zero (suc d) r f e n = e
early zero (suc b) d r f e n = e
early (suc a) b d r f e n = e

late : (a b d r f q : ℕ) → f ≡ first_of a (first_of b d) → f ≡ 0 → q ≡ r → q ≡ first_of a (first_of b (first_of d r))
late zero zero zero r f q e z g = g
late zero zero (suc d) r f q e z g = absurd (omega arith)
late zero (suc b) d r f q e z g = absurd (omega arith)
late (suc a) b d r f q e z g = absurd (omega arith)

-- The call, by its slices.
module _ (n c : ℕ) (parts : Slices) (flow numbers : List ℤ) (reach f : ℕ) (er : reach ≡ shortest parts)
    (e : f ≡ call_number n c (least reach (length flow)) (length numbers)) where
  abbrev short : ℕ
  short = refuse_if (ltb (least (shortest parts) (length flow)) c || ltb (length numbers) (suc n)) 1

  abbrev streams_then : ℕ
  streams_then = first_of (wide_faults n (parts_at parts) c) (refuse_if (not (certifies (wide_plant n c parts) (take c flow) numbers)) 26)

  by_shortest : f ≡ call_number n c (least (shortest parts) (length flow)) (length numbers)
  by_shortest = e ∙ ap (λ (k : ℕ). call_number n c (least k (length flow)) (length numbers)) er

  -- Refused before the streams are looked at.
  pub refused_early : (f ≡ 0 → ⊥) → f ≡ flow_number n c parts flow numbers
  refused_early z = early short (units_fault n) (refuse_if (ltb max_streams c) 5) streams_then f by_shortest z

  module _ (z : f ≡ 0) where
    -- What is past that.
    pub passed : Past n c (least (shortest parts) (length flow)) (length numbers)
    passed = past n c (least (shortest parts) (length flow)) (length numbers) f by_shortest z

    -- The flow reaches all streams,
    pub flows_there : c ≤ length flow
    flows_there = omega (arith, passed.reaching, least_right (shortest parts) (length flow))

    -- and so do the parts.
    pub parts_there : There parts c
    parts_there = there parts c (omega (arith, passed.reaching, least_left (shortest parts) (length flow)))

    -- The streams decide.
    pub by_streams : (streams : List WideStream) (q : ℕ) → Handed streams parts c
        → q ≡ first_of (wide_faults n (wide_at streams) c) (refuse_if (not (rules_hold n c (wide_at streams) flow numbers)) 26)
        → q ≡ flow_number n c parts flow numbers
    by_streams streams q h g =
        late short (units_fault n) (refuse_if (ltb max_streams c) 5) streams_then f q by_shortest z
        (g ∙ ap₂ (λ (w : ℕ) (b : Bool). first_of w (refuse_if (not b) 26)) (faults_same n (wide_at streams) (parts_at parts) c h)
        (sym (rules_by n c parts flow numbers flows_there (wide_at streams) h)))

-- The four tests of the rules in their order.
module _ (n c : ℕ) (s : ℕ → Stream) (flow numbers : List ℤ) where
  -- Flows beyond their limit,
  pub flows_fail : all_small c flow max_wide_flow ≡ false → false ≡ rules_hold n c s flow numbers
  flows_fail t = rw t

  module _ (t : all_small c flow max_wide_flow ≡ true) where
    -- or numbers beyond theirs,
    pub numbers_fail : all_small (suc n) numbers max_wide_number ≡ false → false ≡ rules_hold n c s flow numbers
    numbers_fail u = rw (t, u)

    module _ (u : all_small (suc n) numbers max_wide_number ≡ true) where
      -- or a net that is not 0;
      pub nets_fail : nets_fit s (amount_at flow) c n ≡ false → false ≡ rules_hold n c s flow numbers
      nets_fail v = rw (t, u, v)

      -- else the bounds decide.
      pub bounds_decide : nets_fit s (amount_at flow) c n ≡ true → flows_fit s (amount_at flow) numbers c ≡ rules_hold n c s flow numbers
      bounds_decide v = rw (t, u, v)

-- What passes has least cost; and potentials that certify a flow pass every sheet that shows a flow of least cost.
use mathlib.Core.Path.{◌≡◌, refl, sym, ◌∙◌, ap, ap₂, subst}
use mathlib.Core.Bool.{Bool, true, false, not}
use mathlib.Core.List.{List}
use lib.IntN.{ℤ, pos, ◌-ℤ◌, nat_abs}
use Prim.Native.Nat.{ℕ, suc, ◌≤◌, ◌<◌}
use native.Mathlib.Nat.{le_antisymm}
use native.Mathlib.Omega.{arith}
use lib.ListN.{length}
use Rattle.num_bytes.specs.Inner.{values}
use Rattle.num_bytes.proofs.Tests.{by_cases, same_test}
use Rattle.plant_def.specs.Plants.{Plant}
use Rattle.plant_def.specs.Within.{Within}
use Rattle.flow_def.specs.declared.Class.{Class}
use Rattle.flow_def.specs.declared.Class.TheVariants.{Adjusted, AsRead, Given, Withheld}
use Rattle.flow_def.specs.Flows.{amount_at, in_range, cost, OfLeastCost, Cheapest}
use Rattle.flow_def.specs.Chains.{Chain}
use Rattle.flow_def.specs.Classes.{has, joined_to, class_of, degrees}
use Rattle.flow_def.specs.Test.{verdict_at}
use Rattle.flow_def.specs.Shown.{adjusted}
use Rattle.flow_def.specs.Certificate.{climb}
use Rattle.num_bytes.proofs.Integers.{minus_none, none_minus}
use Rattle.num_bytes.proofs.Lists.{values_long, values_at}
use Rattle.num_bytes.proofs.Sums.{sum_same}
use Rattle.flow_def.proofs.Nets.{count_of, stream_of, inside, crossing, crossing_level, no_crossing}
use Rattle.flow_def.proofs.Reach.{chain_map, joined→chain, chain→joined}
use Rattle.flow_def.proofs.Given.{class_means}
use Rattle.flow_def.proofs.Withheld.{number_of, blank_of}
use Rattle.flow_def.proofs.Chained.{as_read_of, adjusted_of}
use Rattle.flow_def.proofs.Counted.{degrees_counted}
use Rattle.flow_def.proofs.Decided.{decided_shown}
use Rattle.flow_def.proofs.Ranges.{balanced_of, range_of}
use Rattle.flow_def.proofs.Potentials.{StepAt, Certificate}
use Rattle.solve_def.proofs.Theorem.{decided}
use Rattle.sheet_def.specs.Totals.{total_kind, capped}
use Rattle.sheet_def.specs.Sheets.{SheetParts, known}
use Rattle.sheet_def.specs.Drawings.{plant_parts}
use Rattle.sheet_def.specs.Sentences.{class_on, number_on, Tells}
use Rattle.sheet_def.proofs.Telling.{told, weights_told, tells}
use Rattle.foreign_def.specs.Passing.{number_limit, place_number, Ours, withheld_on, JoinedByW, sum_in, sum_out, Passes}
use Rattle.foreign_def.specs.Says.{ShowsFlow, OtherFlow}
use Rattle.foreign_def.specs.Numbers.{Serve}
use Rattle.foreign_def.specs.Test.{withheld_only, shown_at}
use Rattle.foreign_def.proofs.Stepping.{step_level, level_step, step_alike, between_step, step_bottom, step_top}
use Rattle.foreign_def.proofs.Meeting.{known_not, known_shown, Meets, metered_known, filled_in, filled_at, filled_least}
use Rattle.foreign_def.proofs.Numbers.{same_potentials}
use Rattle.foreign_def.proofs.Sums.{crossing_sums}

-- A sheet that tells of a plant what it has to has the classes, the degrees and the verdict as they are computed.
module _ (p : Plant) (w : Within p) (s : SheetParts) (t : Tells p s) where
  -- The class that it tells of stream k is the computed one.
  pub told_class : (k : ℕ) → k < count_of p → class_on s k ≡ class_of p k
  told_class k l = go (class_of p k) refl
    where
      go : (c : Class) → class_of p k ≡ c → class_on s k ≡ c
      go Adjusted e = let m = (class_means p k Adjusted e).0 in (t.adjusted k (l, m)).1 ((adjusted_of p w k m).0 e)
      go AsRead e = let m = (class_means p k AsRead e).0 in (t.as_read k (l, m)).1 ((as_read_of p w k m).0 e)
      go Given e = let m = (class_means p k Given e).0 in (t.given k (l, m)).1 ((number_of p w k (record { listed = l; unmetered = m })).0 e)
      go Withheld e = let m = (class_means p k Withheld e).0 in (t.withheld k (l, m)).1 ((blank_of p w k (record { listed = l; unmetered = m })).0 e)

  -- The degrees that it tells.
  pub told_degrees : s.total.degrees ≡ degrees p
  told_degrees =
      let g = t.groups in
      let c = t.pieces in
      omega (arith, t.degrees g.0 c.0 g.1 c.1, degrees_counted p w g.0 c.0 g.1 c.1)

  -- The verdict that it tells.
  pub told_verdict : (xs : List ℤ) → Cheapest p xs → s.total.verdict ≡ verdict_at (degrees p) (cost p.streams xs) (adjusted p)
  told_verdict xs c = t.verdict xs c ∙ (λ i. verdict_at (told_degrees i) (cost p.streams xs) (sym (weights_told p s told_class (count_of p) (omega arith)) i))

-- Our sheet of a cheapest flow: it tells what it has to, and shows the flow.
module _ (p : Plant) (w : Within p) (xs : List ℤ) (c : Cheapest p xs) (office n : ℕ) where
  -- Our own sheet tells what it has to.
  pub ours_tell : Tells p (plant_parts office p xs n)
  ours_tell = tells p w (decided_shown p w xs c.balance (decided p w)) xs c (plant_parts office p xs n) (told p w xs c total_kind office n)

  -- Our own sheet shows the flow.
  pub ours_shows : ShowsFlow p (plant_parts office p xs n) xs
  ours_shows k l o = let t = told p w xs c total_kind office n in t.numbers k l (λ e. o (t.classes k l ∙ e))

module _ (p : Plant) (w : Within p) where
  -- A sheet like ours.
  module _ (sheet : SheetParts) (o : Ours p sheet) where
    -- It has as many entries as the plant has streams.
    pub like_long : length sheet.streams ≡ count_of p
    like_long = o.2.count ∙ o.1.listed

    -- The same classes.
    pub like_class : (k : ℕ) → k < count_of p → class_on sheet k ≡ class_of p k
    like_class k l = o.2.classes k (rw o.1.listed l) ∙ told_class p w o.0 o.1 k l

    -- The same degrees.
    pub like_degrees : sheet.total.degrees ≡ degrees p
    like_degrees = o.2.degrees ∙ told_degrees p w o.0 o.1

    -- The cost of the cheapest flow.
    pub like_cost : (xs : List ℤ) → Cheapest p xs → sheet.total.cost ≡ capped (cost p.streams xs)
    like_cost xs c = o.2.cost ∙ o.1.costs xs c

    -- Its verdict.
    pub like_verdict : (xs : List ℤ) → Cheapest p xs → sheet.total.verdict ≡ verdict_at (degrees p) (cost p.streams xs) (adjusted p)
    like_verdict xs c = o.2.verdict ∙ told_verdict p w o.0 o.1 xs c

    -- A stream is withheld on it where its class says so.
    like_withheld : (k : ℕ) → k < count_of p → withheld_on sheet k (stream_of p k) ≡ withheld_only p k (stream_of p k)
    like_withheld k l = ap (λ (c : Class). not (known c)) (like_class k l)

    -- The set of places that are joined to u by the streams withheld, as it is computed.
    pub like_joined : (u : ℕ) → JoinedByW p sheet u (λ v. has v (joined_to (withheld_only p) p u))
    like_joined u v l = (
      λ e. chain_map (λ k h q. like_withheld k h ∙ q) (joined→chain (withheld_only p) p u v e),
      λ c. chain→joined (withheld_only p) p (inside p w) (chain_map (λ k h q. sym (like_withheld k h) ∙ q) c),
    )

  shown_known : (sheet : SheetParts) (k : ℕ) → known (class_of p k) ≡ true → shown_at p sheet k ≡ number_on sheet k
  shown_known sheet k e = rw e

  -- Of any sheet: the set of places joined to u.
  pub joined_set : (sheet : SheetParts) (u : ℕ) → JoinedByW p sheet u (λ v. has v (joined_to (withheld_on sheet) p u))
  joined_set sheet u v l = (joined→chain (withheld_on sheet) p u v, chain→joined (withheld_on sheet) p (inside p w))

  module _ (sheet : SheetParts) (numbers : List ℤ) (g : Passes p sheet numbers) where
    abbrev π : ℕ → ℤ
    π = place_number numbers

    step : (k : ℕ) → k < count_of p → StepAt 1 π (stream_of p k) (shown_at p sheet k)
    step k l = by_cases (stream_of p k).metered
        (λ m. subst (λ (z : ℤ). StepAt 1 π (stream_of p k) z) (sym (shown_known sheet k (metered_known p w k m)))
        (between_step π (stream_of p k) (number_on sheet k) m (g.from_bottom k (l, m)) (g.to_top k (l, m))))
        (λ m. level_step π (stream_of p k) m _ (none_minus (π (stream_of p k).to) (π (stream_of p k).from) (sym (g.equal k (l, m)))))

    within_range : (k : ℕ) → k < count_of p → in_range 1 (stream_of p k) (shown_at p sheet k) ≡ true
    within_range k l = by_cases (stream_of p k).metered
        (λ m. subst (λ (z : ℤ). in_range 1 (stream_of p k) z ≡ true) (sym (shown_known sheet k (metered_known p w k m))) (g.ranges k (l, m)))
        (λ m. rw m)

    -- A sheet that passes meets the rules.
    pub passes_meets : Meets p (place_number numbers) (shown_at p sheet)
    passes_meets = record {
      steps = step;
      ranges = within_range;
      uncrossed = λ u l.
          let c : ℕ → Bool = λ v. has v (joined_to (withheld_only p) p u) in
          crossing_sums p sheet (like_long sheet g.ours) (like_class sheet g.ours) c
          ∙ none_minus _ _ (g.sums u c l (like_joined sheet g.ours u));
    }

    abbrev zs : List ℤ
    zs = filled_in p w π (shown_at p sheet) passes_meets

    zs_shown : ShowsFlow p sheet zs
    zs_shown k l n =
        let t = known_not (class_of p k) (λ e. n (like_class sheet g.ours k l ∙ e)) in
        sym (filled_at p w π (shown_at p sheet) passes_meets k l t ∙ shown_known sheet k t)

    zs_least : OfLeastCost p zs
    zs_least = filled_least p w π (shown_at p sheet) passes_meets

    -- The sheet's cost is its cost.
    zs_cost : sheet.total.cost ≡ capped (cost p.streams zs)
    zs_cost =
        let xs = g.ours.1.some.0 in
        let c = g.ours.1.some.1 in
        like_cost sheet g.ours xs c ∙ ap capped (le_antisymm (c.least zs zs_least.balance) (zs_least.least xs c.balance))

    -- What passes shows a flow of least cost, and tells its cost.
    pub passed_least : (xs : List ℤ) × OfLeastCost p xs × ShowsFlow p sheet xs × (sheet.total.cost ≡ capped (cost p.streams xs))
    passed_least = (zs, zs_least, zs_shown, zs_cost)

  -- Certified flows pass, with numbers within the limit.
  module _ (π : ℕ → ℤ) (few : (u : ℕ) → u ≤ p.units → nat_abs (π u) ≤ number_limit) where
    abbrev numbers : List ℤ
    numbers = values (suc p.units) π

    number_at : (u : ℕ) → u ≤ p.units → place_number numbers u ≡ π u
    number_at u l = values_at π (pos 0) (suc p.units) u (omega arith)

    same_climb : (k : ℕ) → k < count_of p → climb (place_number numbers) (stream_of p k) ≡ climb π (stream_of p k)
    same_climb k l = ap₂ ◌-ℤ◌ (number_at (stream_of p k).to (w.each k l).to_in) (number_at (stream_of p k).from (w.each k l).from_in)

    module _ (ys : List ℤ) (c : Certificate p ys π) (sheet : SheetParts) (o : Ours p sheet) (shows : ShowsFlow p sheet ys) where
      shown : (k : ℕ) → k < count_of p → known (class_of p k) ≡ true → number_on sheet k ≡ amount_at ys k
      shown k l t = shows k l (λ e. known_shown (class_of p k) t (sym (like_class sheet o k l) ∙ e))

      listed_step : (k : ℕ) → k < count_of p → StepAt 1 (place_number numbers) (stream_of p k) (amount_at ys k)
      listed_step k l = step_alike (place_number numbers) π (stream_of p k) (amount_at ys k) (same_climb k l) (c.steps k l)

      flow_step : (k : ℕ) → k < count_of p → (stream_of p k).metered ≡ true → StepAt 1 (place_number numbers) (stream_of p k) (number_on sheet k)
      flow_step k l m = subst (λ (z : ℤ). StepAt 1 (place_number numbers) (stream_of p k) z) (sym (shown k l (metered_known p w k m))) (listed_step k l)

      flow_range : (k : ℕ) → k < count_of p → (stream_of p k).metered ≡ true → in_range 1 (stream_of p k) (number_on sheet k) ≡ true
      flow_range k l m = subst (λ (z : ℤ). in_range 1 (stream_of p k) z ≡ true) (sym (shown k l (metered_known p w k m))) (range_of 1 p ys c.balance k l)

      module _ (u : ℕ) (d : ℕ → Bool) (joined : JoinedByW p sheet u d) where
        -- A withheld stream does not cross the border of the set.
        inner : (k : ℕ) → k < count_of p → known (class_of p k) ≡ false → d (stream_of p k).from ≡ d (stream_of p k).to
        inner k l t =
            let s = stream_of p k in
            let a = joined s.from (w.each k l).from_in in
            let b = joined s.to (w.each k l).to_in in
            let h : withheld_on sheet k (stream_of p k) ≡ true = like_withheld sheet o k l ∙ ap not t in
            same_test (d s.from) (d s.to)
            (λ e. b.1 (Chain.along k l h (a.0 e)))
            (λ e. a.1 (Chain.back k l h (b.0 e)))

        each : (k : ℕ) → k < count_of p → crossing d (stream_of p k) (shown_at p sheet k) ≡ crossing d (stream_of p k) (amount_at ys k)
        each k l = by_cases (known (class_of p k))
            (λ t. ap (crossing d (stream_of p k)) (shown_known sheet k t ∙ shown k l t))
            (λ t. crossing_level d (stream_of p k) _ (inner k l t) ∙ sym (crossing_level d (stream_of p k) (amount_at ys k) (inner k l t)))

        equal_sums : sum_in d p.streams sheet.streams ≡ sum_out d p.streams sheet.streams
        equal_sums = minus_none _ _ (
            sym (crossing_sums p sheet (like_long sheet o) (like_class sheet o) d)
            ∙ sum_same (count_of p) _ (λ k. crossing d (stream_of p k) (amount_at ys k)) each
            ∙ no_crossing p w ys (balanced_of 1 p ys c.balance) d)

      -- Numbers that certify the flow let the sheet pass.
      pub certified_passes : Passes p sheet (values (suc p.units) π)
      certified_passes = record {
        one_each = values_long π (suc p.units);
        small = λ u l. rw (number_at u l) (few u l);
        ours = o;
        from_bottom = λ k i. step_bottom (place_number numbers) (stream_of p k) (number_on sheet k) i.1 (flow_range k i.0 i.1) (flow_step k i.0 i.1);
        to_top = λ k i. step_top (place_number numbers) (stream_of p k) (number_on sheet k) i.1 (flow_range k i.0 i.1) (flow_step k i.0 i.1);
        ranges = λ k i. flow_range k i.0 i.1;
        equal = λ k i. sym (minus_none (place_number numbers (stream_of p k).to) (place_number numbers (stream_of p k).from)
            (step_level (place_number numbers) (stream_of p k) i.1 (amount_at ys k) (listed_step k i.0)));
        sums = λ u d l j. equal_sums u d j;
      }

  -- Our sheet is one that shows such a flow.
  pub our_flow : (xs : List ℤ) (office n : ℕ) → Cheapest p xs → OtherFlow p (plant_parts office p xs n)
  our_flow xs office n c = record {
    ours = (plant_parts office p xs n, ours_tell p w xs c office n, record { count = refl; classes = λ k l. refl; degrees = refl; cost = refl; verdict = refl });
    flow = xs;
    least = record { balance = c.balance; least = c.least };
    shows = ours_shows p w xs c office n;
  }

  -- Potentials within the limit that certify some flow serve.
  pub certified_serve : (π : ℕ → ℤ) → ((u : ℕ) → u ≤ p.units → nat_abs (π u) ≤ number_limit) → (xs : List ℤ) → Certificate p xs π
      → Serve p (values (suc p.units) π)
  certified_serve π few xs c sheet f = certified_passes π few f.flow (same_potentials p w π xs c f.flow f.least) sheet f.ours f.shows

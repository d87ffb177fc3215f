-- The computed test says whether a sheet passes. It runs no solver: where the other rules hold, the flows shown have least cost.
use mathlib.Core.Path.{◌≡◌, refl, sym, ◌∙◌, ap}
use mathlib.Core.Logic.{◌↔◌}
use mathlib.Core.Bool.{Bool, true, false, ◌&&◌}
use mathlib.Core.List.{List}
use lib.IntN.{ℤ, pos, neg_ℤ, nat_abs, ◌+ℤ◌, +ℤ_idl, +ℤ_idr, +ℤ_invr}
use Prim.Native.Nat.{ℕ, suc, ◌≤◌, ◌<◌}
use native.Mathlib.Nat.{le_antisymm}
use native.Mathlib.Omega.{arith}
use native.Mathlib.Decide.{ℕ_discrete, dec_le}
use borrow.Author.Tests.{eqb-true, eq-eqb, ne_eqb, leb-true, le-leb}
use lib.Dec.{eqb, leb}
use lib.ListN.{length, get_or}
use Rattle.num_bytes.specs.Choice.{pick}
use Rattle.num_bytes.proofs.Tests.{by_cases, clash, and_left, and_right, and_both, same_test}
use Rattle.plant_def.specs.declared.Stream.{Stream}
use Rattle.plant_def.specs.Limits.{places}
use Rattle.plant_def.specs.Plants.{Plant}
use Rattle.plant_def.specs.Within.{Within}
use Rattle.flow_def.specs.declared.Class.{Class}
use Rattle.flow_def.specs.declared.Class.TheVariants.{Adjusted, AsRead, Given, Withheld}
use Rattle.flow_def.specs.Flows.{in_range, allowed, cost, OfLeastCost}
use Rattle.flow_def.specs.Chains.{Counting}
use Rattle.flow_def.specs.Classes.{has, joined_to, class_of, degrees}
use Rattle.flow_def.specs.Labels.{labels_of, one_label}
use Rattle.flow_def.specs.Test.{verdict_at}
use Rattle.flow_def.specs.Shown.{adjusted}
use Rattle.flow_def.specs.Certificate.{in_kilter}
use Rattle.num_bytes.proofs.Integers.{size_none, minus_none}
use Rattle.flow_def.proofs.Certified.{every_at, every_all, kilter_says, says_kilter}
use Rattle.num_bytes.proofs.Sums.{sum, sum_same, sum_none}
use Rattle.flow_def.proofs.Nets.{count_of, stream_of, inside, crossing}
use Rattle.flow_def.proofs.Labels.{label_joined, label_member, label_low}
use Rattle.flow_def.proofs.Decided.{Decided, solved, full}
use Rattle.flow_def.proofs.Overfull.{overfull_none}
use Rattle.solve_def.specs.Sizes.{flow_shift}
use Rattle.solve_def.proofs.Theorem.{decided}
use Rattle.sheet_def.specs.Totals.{capped}
use Rattle.sheet_def.specs.Sheets.{SheetParts, kind_of, known}
use Rattle.sheet_def.specs.Drawings.{plant_parts}
use Rattle.sheet_def.specs.Sentences.{class_on, number_on}
use Rattle.foreign_def.specs.Passing.{number_limit, place_number, Ours, JoinedByW, sum_in, sum_out, Passes}
use Rattle.foreign_def.specs.Test.{withheld_only, shown_at, shown_flows, brought_by, net_by, numbers_fit, records_fit, flows_fit, nets_fit, total_fits, passes}
use Rattle.foreign_def.proofs.Filling.{Uncrossed}
use Rattle.foreign_def.proofs.Stepping.{step_level, step_bottom, step_top}
use Rattle.foreign_def.proofs.Meeting.{Meets, metered_known, filled_in, filled_at, filled_allowed, filled_certified, filled_least, filled_cost, known_few}
use Rattle.foreign_def.proofs.Sums.{crossing_sums}
use Rattle.foreign_def.proofs.Passing.{told_class, told_degrees, told_verdict, ours_tell, like_long, like_class, like_degrees, like_cost, like_verdict, like_joined, passes_meets}

-- A class by its kind.
class_at_place : ℕ → Class
class_at_place k = pick (eqb k 17) Adjusted (pick (eqb k 18) AsRead (pick (eqb k 19) Given Withheld))

of_kind : (c : Class) → class_at_place (kind_of c) ≡ c
unfolding class_at_place
of_kind Adjusted = refl
of_kind AsRead = refl
of_kind Given = refl
of_kind Withheld = refl

same_class : (a b : Class) → kind_of a ≡ kind_of b → a ≡ b
same_class a b e = sym (of_kind a) ∙ ap class_at_place e ∙ of_kind b

-- The rules as the test has them: what a total says is said of the flows shown.
pub record Holds (p : Plant) (sheet : SheetParts) (numbers : List ℤ) : Type 0 where
  pub one_each : length numbers ≡ suc p.units
  pub small : (u : ℕ) → u ≤ p.units → nat_abs (place_number numbers u) ≤ number_limit
  pub long : length sheet.streams ≡ length p.streams
  pub classes : (k : ℕ) → k < length p.streams → class_on sheet k ≡ class_of p k
  pub meets : Meets p (place_number numbers) (shown_at p sheet)
  pub freedom : sheet.total.degrees ≡ degrees p
  pub costs : sheet.total.cost ≡ capped (cost p.streams (shown_flows p sheet))
  pub verdict : sheet.total.verdict ≡ verdict_at (degrees p) (cost p.streams (shown_flows p sheet)) (adjusted p)

-- Nets by labels are what crosses the border of a set of joined places.
module _ (counts : Counting) (p : Plant) (w : Within p) where
  abbrev labels : List ℕ
  labels = labels_of counts p

  abbrev label : ℕ → ℕ
  label u = get_or (labels_of counts p) u 0

  brought_crosses : (s : Stream) (x : ℤ) (v : ℕ) → brought_by labels v s x ≡ crossing (λ t. eqb (label t) v) s x
  brought_crosses s x v = go (eqb (label s.to) v) (eqb (label s.from) v)
    where
      go : (t f : Bool) → pick t x (pos 0) +ℤ pick f (neg_ℤ x) (pos 0) ≡ pick t (pick f (pos 0) x) (pick f (neg_ℤ x) (pos 0))
      go true true = +ℤ_invr x
      go true false = +ℤ_idr x
      go false true = +ℤ_idl (neg_ℤ x)
      go false false = refl

  low : (u : ℕ) → u ≤ p.units → u < places
  low u l = omega (arith, w.few_units)

  by_label : (u t : ℕ) → u ≤ p.units → t ≤ p.units → eqb (label t) (label u) ≡ has t (joined_to counts p u)
  by_label u t a b =
      same_test (eqb (label t) (label u)) (one_label labels u t) (λ q. eq-eqb (label u) (label t) (sym (eqb-true (label t) (label u) q)))
      (λ q. eq-eqb (label t) (label u) (sym (eqb-true (label u) (label t) q)))
      ∙ sym (label_joined counts p w.few_units (inside p w) u t (low u a) (low t b))

  own : (u : ℕ) → u ≤ p.units → label (label u) ≡ label u
  own u l =
      let d : label u ≤ p.units = omega (arith, label_low counts p w.few_units (inside p w) u (low u l)) in
      eqb-true (label (label u)) (label u) (by_label u (label u) l d ∙ label_member counts p w.few_units (inside p w) u (low u l))

  module _ (x : ℕ → ℤ) where
    abbrev net : ℕ → ℤ
    net v = sum (count_of p) (λ k. brought_by labels v (stream_of p k) (x k))

    net_crosses : (u : ℕ) → u ≤ p.units → net (label u) ≡ sum (count_of p) (λ k. crossing (λ v. has v (joined_to counts p u)) (stream_of p k) (x k))
    net_crosses u l = sum_same (count_of p) _ _ (λ k h.
        let s = stream_of p k in
        brought_crosses s (x k) (label u)
        ∙ rw (by_label u s.to l (w.each k h).to_in, by_label u s.from l (w.each k h).from_in))

    -- Nets that are all 0: the flow is closed.
    pub nets_uncrossed : ((v : ℕ) → v < places → net v ≡ pos 0) → Uncrossed counts p x
    nets_uncrossed h u l =
        let d : label u < places = omega (arith, low u l, label_low counts p w.few_units (inside p w) u (low u l)) in
        sym (net_crosses u l) ∙ h (label u) d

    -- A number that labels no place has no net.
    nobody : (v : ℕ) → ((u : ℕ) → u ≤ p.units → label u ≡ v → ⊥) → net v ≡ pos 0
    nobody v n = sum_none (count_of p) _ (λ k h.
        let s = stream_of p k in
        rw (ne_eqb (label s.to) v (n s.to (w.each k h).to_in), ne_eqb (label s.from) v (n s.from (w.each k h).from_in)))

    -- A closed flow's nets are 0.
    pub uncrossed_nets : Uncrossed counts p x → (v : ℕ) → net v ≡ pos 0
    uncrossed_nets c v = elim (dec_le v p.units) [
      | yes h ↦ elim (ℕ_discrete (label v) v) [
        | yes e ↦ ap net (sym e) ∙ net_crosses v h ∙ c v h
        | no e ↦ nobody v (λ u l q. e (ap label (sym q) ∙ own u l ∙ q))
      ]
      | no h ↦ nobody v (λ u l q. omega (arith, label_low counts p w.few_units (inside p w) u (low u l)))
    ]

module _ (p : Plant) (w : Within p) (sheet : SheetParts) (numbers : List ℤ) where
  abbrev π : ℕ → ℤ
  π = place_number numbers

  abbrev x : ℕ → ℤ
  x = shown_at p sheet

  -- What passes keeps the rules.
  module _ (g : Passes p sheet numbers) where
    abbrev xs : List ℤ
    xs = g.ours.1.some.0

    passed_met : Meets p π x
    passed_met = passes_meets p w sheet numbers g

    zs_least : OfLeastCost p (filled_in p w π x passed_met)
    zs_least = filled_least p w π x passed_met

    -- Our cost is that of the flows shown.
    our_cost : cost p.streams g.ours.1.some.0 ≡ cost p.streams (shown_flows p sheet)
    our_cost =
        let c = g.ours.1.some.1 in
        le_antisymm (c.least (filled_in p w π x passed_met) zs_least.balance) (zs_least.least xs c.balance)
        ∙ filled_cost p w π x passed_met

    -- A sheet that passes keeps each rule.
    pub passes_holds : Holds p sheet numbers
    passes_holds = record {
      one_each = g.one_each;
      small = g.small;
      long = like_long p w sheet g.ours;
      classes = like_class p w sheet g.ours;
      meets = passed_met;
      freedom = like_degrees p w sheet g.ours;
      costs = like_cost p w sheet g.ours xs g.ours.1.some.1 ∙ ap capped our_cost;
      verdict = like_verdict p w sheet g.ours xs g.ours.1.some.1 ∙ ap (λ (c : ℕ). verdict_at (degrees p) c (adjusted p)) our_cost;
    }

  -- What keeps the rules passes.
  module _ (g : Holds p sheet numbers) where
    abbrev met : Meets p π x
    met = g.meets

    shown_metered : (k : ℕ) → (stream_of p k).metered ≡ true → x k ≡ number_on sheet k
    shown_metered k m = rw (metered_known p w k m)

    ours_by : Decided p → Ours p sheet
    ours_by (full ms o) =
        clash (allowed p (filled_in p w π x met)) (filled_allowed p w π x met) (overfull_none p w ms o 1 (filled_in p w π x met) (omega arith))
    ours_by (solved xs ρ h c) =
        let s = plant_parts 0 p xs 1 in
        let t = ours_tell p w xs h 0 1 in (
          s,
          t,
          record {
            count = g.long ∙ sym t.listed;
            classes = λ k l. let b : k < count_of p = rw t.listed at l in g.classes k b ∙ sym (told_class p w s t k b);
            degrees = g.freedom ∙ sym (told_degrees p w s t);
            cost = g.costs ∙ ap capped (sym same) ∙ sym (t.costs xs h);
            verdict = g.verdict ∙ ap (λ (c : ℕ). verdict_at (degrees p) c (adjusted p)) (sym same) ∙ sym (told_verdict p w s t xs h);
          },
        )
      where
        least : OfLeastCost p (filled_in p w π x met)
        least = filled_least p w π x met

        same : cost p.streams xs ≡ cost p.streams (shown_flows p sheet)
        same = le_antisymm (h.least (filled_in p w π x met) least.balance) (least.least xs h.balance) ∙ filled_cost p w π x met

    module _ (u : ℕ) (c : ℕ → Bool) (l : u ≤ p.units) (j : JoinedByW p sheet u c) where
      -- The set is the one that is computed.
      same_set : (v : ℕ) → v ≤ p.units → has v (joined_to (withheld_only p) p u) ≡ c v
      same_set v b =
          let d = like_joined p w sheet (ours_by (decided p w)) u v b in
          let e = j v b in
          same_test (has v (joined_to (withheld_only p) p u)) (c v) (λ t. e.1 (d.0 t)) (λ t. d.1 (e.0 t))

      holds_sums : sum_in c p.streams sheet.streams ≡ sum_out c p.streams sheet.streams
      holds_sums = minus_none _ _ (
          sym (crossing_sums p sheet g.long g.classes c)
          ∙ sum_same (count_of p) _ (λ k. crossing (λ v. has v (joined_to (withheld_only p) p u)) (stream_of p k) (x k))
          (λ k h. rw (same_set (stream_of p k).to (w.each k h).to_in, same_set (stream_of p k).from (w.each k h).from_in))
          ∙ g.meets.uncrossed u l)

    -- A sheet that keeps each rule passes.
    pub holds_passes : Passes p sheet numbers
    holds_passes = record {
      one_each = g.one_each;
      small = g.small;
      ours = ours_by (decided p w);
      from_bottom = λ k i. rw (shown_metered k i.1) at (step_bottom π (stream_of p k) (x k) i.1 (met.ranges k i.0) (met.steps k i.0));
      to_top = λ k i. rw (shown_metered k i.1) at (step_top π (stream_of p k) (x k) i.1 (met.ranges k i.0) (met.steps k i.0));
      ranges = λ k i. rw (shown_metered k i.1) at (met.ranges k i.0);
      equal = λ k i. sym (minus_none (π (stream_of p k).to) (π (stream_of p k).from) (step_level π (stream_of p k) i.1 (x k) (met.steps k i.0)));
      sums = holds_sums;
    }

    -- So no known flow is large: one that is can be refused before sums and products are formed.
    pub holds_small : (k : ℕ) → k < count_of p → nat_abs (x k) ≤ flow_shift
    holds_small k l = by_cases (known (class_of p k))
        (λ t. rw (← filled_at p w π x met k l t) (omega (arith, known_few p w π (filled_in p w π x met) (filled_certified p w π x met) k l t)))
        (λ t. rw t (omega arith))

  abbrev c : ℕ
  c = cost p.streams (shown_flows p sheet)

  -- The test is that of these rules.
  test_holds : passes p sheet numbers ≡ true → Holds p sheet numbers
  unfolding passes nets_fit
  test_holds e = record {
    one_each = eqb-true (length numbers) (suc p.units) (and_left (eqb (length numbers) (suc p.units)) _ one);
    small = λ u l. leb-true (nat_abs (π u)) number_limit
        (every_at (suc p.units) (λ u. leb (nat_abs (place_number numbers u)) number_limit) (and_right (eqb (length numbers) (suc p.units)) _ one) u (omega arith));
    long = eqb-true (length sheet.streams) (length p.streams) (and_left (eqb (length sheet.streams) (length p.streams)) _ after_one);
    classes = λ k l. same_class (class_on sheet k) (class_of p k)
        (eqb-true (kind_of (class_on sheet k)) (kind_of (class_of p k)) (and_left (eqb (kind_of (class_on sheet k)) (kind_of (class_of p k))) _ (entry k l)));
    meets = record {
      steps = λ k l. kilter_says π (stream_of p k) (x k) (and_right (in_range 1 (stream_of p k) (x k)) _ (flow k l));
      ranges = λ k l. and_left (in_range 1 (stream_of p k) (x k)) _ (flow k l);
      uncrossed = nets_uncrossed (withheld_only p) p w x
          (λ v l. size_none _ (eqb-true _ 0 (every_at places (λ v. eqb (nat_abs (net_by (labels_of (withheld_only p) p) p.streams x v)) 0) nets v l)));
    };
    freedom = eqb-true sheet.total.degrees (degrees p) (and_left (eqb sheet.total.degrees (degrees p)) _ total);
    costs = eqb-true sheet.total.cost _ (and_left (eqb sheet.total.cost (capped c)) _ rest);
    verdict = eqb-true sheet.total.verdict _ (and_right (eqb sheet.total.cost (capped c)) _ rest);
  }
    where
      nets_and : Bool
      nets_and = nets_fit (labels_of (withheld_only p) p) p.streams x && total_fits p c sheet.total

      flows_and : Bool
      flows_and = flows_fit p.streams x numbers && nets_and

      records_and : Bool
      records_and = records_fit (count_of p) (class_on sheet) (class_of p) x && flows_and

      one : numbers_fit p.units numbers ≡ true
      one = and_left (numbers_fit p.units numbers) _ e

      after_one : eqb (length sheet.streams) (length p.streams) && records_and ≡ true
      after_one = and_right (numbers_fit p.units numbers) _ e

      records : records_and ≡ true
      records = and_right (eqb (length sheet.streams) (length p.streams)) _ after_one

      flows : flows_and ≡ true
      flows = and_right (records_fit (count_of p) (class_on sheet) (class_of p) x) _ records

      after_flows : nets_and ≡ true
      after_flows = and_right (flows_fit p.streams x numbers) _ flows

      nets : nets_fit (labels_of (withheld_only p) p) p.streams x ≡ true
      nets = and_left (nets_fit (labels_of (withheld_only p) p) p.streams x) _ after_flows

      total : total_fits p c sheet.total ≡ true
      total = and_right (nets_fit (labels_of (withheld_only p) p) p.streams x) _ after_flows

      rest : eqb sheet.total.cost (capped c) && eqb sheet.total.verdict (verdict_at (degrees p) c (adjusted p)) ≡ true
      rest = and_right (eqb sheet.total.degrees (degrees p)) _ total

      entry : (k : ℕ) → k < count_of p → eqb (kind_of (class_on sheet k)) (kind_of (class_of p k)) && leb (nat_abs (x k)) flow_shift ≡ true
      entry k l = every_at (count_of p) _ (and_left (records_fit (count_of p) (class_on sheet) (class_of p) x) _ records) k l

      flow : (k : ℕ) → k < count_of p → in_range 1 (stream_of p k) (x k) && in_kilter π (stream_of p k) (x k) ≡ true
      flow k l = every_at (count_of p) _ (and_left (flows_fit p.streams x numbers) _ flows) k l

  holds_test : Holds p sheet numbers → passes p sheet numbers ≡ true
  unfolding passes nets_fit
  holds_test g =
      and_both _ _
      (and_both _ _ (eq-eqb _ _ g.one_each) (every_all (suc p.units) _ (λ u l. le-leb _ number_limit (g.small u (omega arith)))))
      (and_both _ _ (eq-eqb _ _ g.long)
      (and_both _ _ (every_all (count_of p) _ (λ k l. and_both _ _ (eq-eqb _ _ (ap kind_of (g.classes k l))) (le-leb _ flow_shift (holds_small g k l))))
      (and_both _ _ (every_all (count_of p) _ (λ k l. and_both _ _ (g.meets.ranges k l) (says_kilter π (stream_of p k) (x k) (g.meets.steps k l))))
      (and_both _ _ (every_all places _ (λ v l. eq-eqb _ 0 (ap nat_abs (uncrossed_nets (withheld_only p) p w x g.meets.uncrossed v))))
      (and_both _ _ (eq-eqb _ _ g.freedom) (and_both _ _ (eq-eqb _ _ g.costs) (eq-eqb _ _ g.verdict)))))))

  -- The computed test says whether the sheet passes.
  pub test_is : (passes p sheet numbers ≡ true) ↔ Passes p sheet numbers
  test_is = (λ e. holds_passes (test_holds e), λ g. holds_test (passes_holds g))

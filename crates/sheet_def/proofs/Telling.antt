-- What a cheapest flow's sheet tells: each sentence, from the classes and the flow that they were made of.
use mathlib.Core.Path.{◌≡◌, refl, sym, ap, ap₂, ◌∙◌}
use mathlib.Core.Bool.{true}
use mathlib.Core.Logic.{◌↔◌}
use mathlib.Core.List.{List}
use lib.IntN.{ℤ, pos, ◌*ℤ◌}
use Prim.Native.Nat.{ℕ, zero, suc, ◌+◌, ◌*◌, ◌≤◌, ◌<◌}
use native.Mathlib.Omega.{arith}
use lib.Dec.{eqb}
use lib.ListN.{length, get_or, take}
use lib.Seq.{length-take-le, get_or-take}
use Rattle.num_bytes.specs.Choice.{pick}
use Rattle.num_bytes.proofs.Tests.{clash}
use Rattle.plant_def.specs.declared.Stream.{Stream}
use Rattle.plant_def.specs.Limits.{max_streams}
use Rattle.plant_def.specs.Plants.{Plant}
use Rattle.plant_def.specs.Within.{Within}
use Rattle.flow_def.specs.declared.Class.{Class}
use Rattle.flow_def.specs.declared.Class.TheVariants.{Adjusted, AsRead, Given, Withheld}
use Rattle.flow_def.specs.Flows.{stream_at, amount_at, balanced, allowed_over, cost, cost_over, Cheapest, nearest}
use Rattle.flow_def.specs.Chains.{every_stream, unmetered_only}
use Rattle.flow_def.specs.Classes.{class_of, number_of, degrees}
use Rattle.flow_def.specs.Test.{verdict_at}
use Rattle.flow_def.specs.Shown.{adjusted_weight, adjusted_to, adjusted, Shown}
use Rattle.flow_def.proofs.Nets.{inside}
use Rattle.num_bytes.proofs.Lists.{values_at}
use Rattle.flow_def.proofs.Ranges.{balanced_of}
use Rattle.flow_def.proofs.Given.{class_means, number_is}
use Rattle.flow_def.proofs.Degrees.{degrees_most}
use Rattle.flow_def.proofs.Counted.{some_each, degrees_counted}
use Rattle.flow_def.proofs.Chained.{as_read_of, adjusted_of, given_times}
use Rattle.sheet_def.specs.declared.Entry.{Entry}
use Rattle.sheet_def.specs.Totals.{capped}
use Rattle.sheet_def.specs.Sheets.{adjusted_kind, kind_of, SheetParts}
use Rattle.sheet_def.specs.Sentences.{MeteredAt, UnmeteredAt, class_on, number_on, MetersAs, weights_to, adjusted_weights, Tells}
use Rattle.sheet_def.specs.Balances.{entry_of, balance_of}
use Rattle.sheet_def.specs.Calls.{Small}
use Rattle.sheet_def.specs.Kept.{blank}
use Rattle.sheet_def.specs.Drawings.{parts_of}
use Rattle.sheet_def.proofs.Entries.{balance_long}
use Rattle.sheet_def.proofs.Unique.{amount_same, cost_same}
use Rattle.sheet_def.proofs.Judged.{passed_means, failed_means}

-- What a sheet of a flow shows.
pub record Told (p : Plant) (xs : List ℤ) (s : SheetParts) : Type 0 where
  pub long : length s.streams ≡ length p.streams
  pub classes : (k : ℕ) → k < length p.streams → class_on s k ≡ class_of p k
  pub numbers : (k : ℕ) → k < length p.streams → (class_of p k ≡ Withheld → ⊥) → number_on s k ≡ amount_at xs k
  pub costs : s.total.cost ≡ capped (cost p.streams xs)
  pub freedom : s.total.degrees ≡ degrees p
  pub verdict : s.total.verdict ≡ verdict_at (degrees p) (cost p.streams xs) (adjusted p)

-- An entry has the class that it is made of.
pub entry_class : (c : Class) (x : ℤ) → (entry_of c x).class ≡ c
entry_class Adjusted x = refl
entry_class AsRead x = refl
entry_class Given x = refl
entry_class Withheld x = refl

-- The entry of a stream that is not withheld has its number.
pub entry_flow : (c : Class) (x : ℤ) → (c ≡ Withheld → ⊥) → (entry_of c x).flow ≡ x
entry_flow Adjusted x n = refl
entry_flow AsRead x n = refl
entry_flow Given x n = refl
entry_flow Withheld x n = absurd (n refl)

-- Each number of a flow that is shown is small, and fits 8 bytes.
abbrev pub Sized : Plant → List ℤ → Type 0
Sized p xs = (k : ℕ) → k < length p.streams → (class_of p k ≡ Withheld → ⊥) → Small (amount_at xs k)

module _ (p : Plant) (w : Within p) (xs : List ℤ) (c : Cheapest p xs) where
  abbrev count : ℕ
  count = length p.streams

  abbrev es : List Entry
  es = take (length p.streams) (balance_of p xs).streams

  -- A sheet has an entry for each stream,
  pub es_long : length es ≡ count
  es_long = let l = balance_long p xs in let f = w.few_streams in length-take-le count (balance_of p xs).streams (omega arith)

  -- that of its class and number,
  pub entry_at : (none : Entry) (k : ℕ) → k < count → get_or es k none ≡ entry_of (class_of p k) (number_of p xs k)
  unfolding balance_of
  entry_at none k h =
      let f = w.few_streams in
      get_or-take count (balance_of p xs).streams k none h ∙ values_at (λ k. entry_of (class_of p k) (number_of p xs k)) none max_streams k (omega arith)

  -- so its class is the stream's,
  pub class_at : (none : Entry) (k : ℕ) → k < count → (get_or es k none).class ≡ class_of p k
  class_at none k h = ap (λ (e : Entry). e.class) (entry_at none k h) ∙ entry_class (class_of p k) (number_of p xs k)

  -- and its number, where there is one, the flow's.
  pub flow_at : (none : Entry) (k : ℕ) → k < count → (class_of p k ≡ Withheld → ⊥) → (get_or es k none).flow ≡ amount_at xs k
  flow_at none k h o = ap (λ (e : Entry). e.flow) (entry_at none k h) ∙ entry_flow (class_of p k) (number_of p xs k) o ∙ number_is p w xs (balanced_of 1 p xs c.balance) k h o

  -- Its cost is the flow's, as it is written,
  pub cost_is : (balance_of p xs).cost ≡ capped (cost p.streams xs)
  unfolding balance_of
  cost_is = refl

  -- its degrees are the plant's,
  pub degrees_is : (balance_of p xs).degrees ≡ degrees p
  unfolding balance_of
  degrees_is = refl

  -- and its verdict is that of the degrees, the cost and the adjusted streams' weights.
  pub verdict_is : (balance_of p xs).verdict ≡ verdict_at (degrees p) (cost p.streams xs) (adjusted p)
  unfolding balance_of
  verdict_is = refl

  -- The sheet of a flow, under a total of some kind.
  pub told : (kind office n : ℕ) → Told p xs (parts_of kind office (length p.streams) n (balance_of p xs))
  told kind office n = record { long = es_long; classes = class_at blank; numbers = flow_at blank; costs = cost_is; freedom = degrees_is; verdict = verdict_is }

weight_told : (c : Class) (s : Stream) → adjusted_weight c s ≡ pick (eqb (kind_of c) adjusted_kind) s.weight 0
weight_told Adjusted s = refl
weight_told AsRead s = refl
weight_told Given s = refl
weight_told Withheld s = refl

iff_both : {A B C : Type 0} → (A ↔ B) → (B ↔ C) → A ↔ C
iff_both f g = (λ a. g.0 (f.0 a), λ c. f.1 (g.1 c))

-- The summed weights of the A streams, where a sheet has the classes.
pub weights_told : (p : Plant) (s : SheetParts) → ((k : ℕ) → k < length p.streams → class_on s k ≡ class_of p k) → (k : ℕ) → k ≤ length p.streams
    → adjusted_to p k ≡ weights_to p s k
weights_told p s classes zero h = refl
weights_told p s classes (suc k) h =
    ap₂ ◌+◌ (weight_told (class_of p k) (stream_at p.streams k)
    ∙ ap (λ (q : Class). pick (eqb (kind_of q) adjusted_kind) (stream_at p.streams k).weight 0) (sym (classes k (omega arith))))
    (weights_told p s classes k (omega arith))

module _ (p : Plant) (w : Within p) (shown : Shown p) (xs : List ℤ) (c : Cheapest p xs) (s : SheetParts) (t : Told p xs s) where
  class_iff : (k : ℕ) → k < length p.streams → (a : Class) → (class_on s k ≡ a) ↔ (class_of p k ≡ a)
  class_iff k h a = (λ e. sym (t.classes k h) ∙ e, λ e. t.classes k h ∙ e)

  -- A metered stream is not withheld, nor is a given one.
  metered_shown : (k : ℕ) → (stream_at p.streams k).metered ≡ true → class_of p k ≡ Withheld → ⊥
  metered_shown k q e = clash (stream_at p.streams k).metered q (class_means p k Withheld e).0

  as_shown : {a : Class} → (a ≡ Withheld → ⊥) → (k : ℕ) → class_of p k ≡ a → class_of p k ≡ Withheld → ⊥
  as_shown f k e q = f (sym e ∙ q)

  differ : {a : Class} → (kind_of a ≡ kind_of Withheld → ⊥) → a ≡ Withheld → ⊥
  differ f e = f (ap kind_of e)

  meter : (k : ℕ) → MeteredAt p k → number_on s k ≡ amount_at xs k
  meter k q = t.numbers k q.0 (metered_shown k q.1)

  reading : (i : ℕ) → MeteredAt p i → class_of p i ≡ AsRead → number_on s i ≡ nearest (stream_at p.streams i)
  reading i q e = meter i q ∙ shown.as_read xs i c q.0 e

  given_number : (i d : ℕ) (ys : List ℤ) → UnmeteredAt p i → class_of p i ≡ Given → balanced p ys ≡ true → MetersAs p s d ys
      → amount_at ys i ≡ pos d *ℤ number_on s i
  given_number i d ys u e bal f =
      let shows : number_on s i ≡ amount_at xs i = t.numbers i u.0 (as_shown (differ (λ q. omega arith)) i e) in
      given_times p w i u.0 e (pos d) xs ys (balanced_of 1 p xs c.balance) bal (λ k l q. f k (l, q) ∙ ap (λ (z : ℤ). pos d *ℤ z) (meter k (l, q)))
      ∙ ap (λ (z : ℤ). pos d *ℤ z) (sym shows)

  weights : (k : ℕ) → k ≤ length p.streams → adjusted_to p k ≡ weights_to p s k
  weights = weights_told p s t.classes

  quarter : (zs : List ℤ) → Cheapest p zs → (d : ℕ) (ys : List ℤ) → 1 ≤ d → allowed_over d p ys ≡ true
      → 4 * (d * d) * cost p.streams zs ≤ 4 * cost_over d p.streams ys + d * d * adjusted_weights p s
  quarter zs z d ys l a = rw (← weights (length p.streams) (omega arith)) (shown.near zs ys d z l a)

  judged : (zs : List ℤ) → Cheapest p zs → s.total.verdict ≡ verdict_at s.total.degrees (cost p.streams zs) (adjusted_weights p s)
  judged zs z = t.verdict ∙ (λ i. verdict_at (sym t.freedom i) (cost_same p w xs zs c z i) (weights (length p.streams) (omega arith) i))

  -- So the sheet tells of the plant all that it has to.
  pub tells : Tells p s
  tells = record {
    listed = t.long;
    adjusted = λ i q. iff_both (class_iff i q.0 Adjusted) (adjusted_of p w i q.1);
    as_read = λ i q. iff_both (class_iff i q.0 AsRead) (as_read_of p w i q.1);
    reading = λ i q e. reading i q ((class_iff i q.0 AsRead).0 e);
    given = λ i q. iff_both (class_iff i q.0 Given) (shown.number i (record { listed = q.0; unmetered = q.1 }));
    withheld = λ i q. iff_both (class_iff i q.0 Withheld) (shown.blank i (record { listed = q.0; unmetered = q.1 }));
    number = λ i d ys q e. given_number i d ys q ((class_iff i q.0 Given).0 e);
    some = (xs, c);
    metered = λ ys d i q. meter i q ∙ amount_same p w xs ys c d i q.0 (metered_shown i q.1);
    costs = λ ys d. t.costs ∙ ap capped (cost_same p w xs ys c d);
    near = quarter;
    groups = some_each p w unmetered_only;
    pieces = some_each p w every_stream;
    degrees = λ gs cs g h. rw t.freedom (degrees_counted p w gs cs g h);
    few = rw t.freedom (degrees_most p w.few_units (inside p w));
    verdict = judged;
    passes = λ e zs z. passed_means s.total.degrees (cost p.streams zs) (adjusted_weights p s) (sym (judged zs z) ∙ e);
    fails = λ e d ys l a. failed_means s.total.degrees (cost p.streams xs) (adjusted_weights p s) (sym (judged xs c) ∙ e) d (cost_over d p.streams ys) l (quarter xs c d ys l a);
  }

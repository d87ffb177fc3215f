-- The tests of numbers, records and flows, element by element.
use mathlib.Core.Path.{◌≡◌, sym, ◌∙◌}
use mathlib.Core.Logic.{◌↔◌}
use mathlib.Core.Bool.{Bool, true, false}
use mathlib.Core.List.{List}
use lib.IntN.{ℤ, pos, nat_abs, ◌-ℤ◌}
use Prim.Native.Nat.{ℕ, suc, ◌+◌, ◌≤◌, ◌<◌}
use native.Mathlib.Omega.{arith}
use lib.Dec.{eqb, leb}
use lib.ListN.{length, get_or}
use lib.Seq.{ext_get_or}
use mir.Syntax.{w64}
use mir.Val.{SFits, to_z, of_z}
use borrow.Author.Tests.{eq-eqb, eqb-true, leb-true}
use Rattle.num_bytes.specs.Choice.{pick}
use Rattle.num_bytes.specs.Inner.{values}
use Rattle.num_bytes.proofs.Tests.{and_left, and_right, same_test}
use Rattle.plant_def.specs.declared.Stream.{Stream}
use Rattle.plant_def.specs.declared.Plant as Arrays
use Rattle.plant_def.specs.Limits.{max_streams}
use Rattle.plant_def.specs.Plants.{no_stream}
use Rattle.plant_def.specs.Within.{Accepted}
use Rattle.plant_def.specs.Says.{plant_of}
use Rattle.plant_def.proofs.Arrayed.{all_listed, listed_at}
use Rattle.flow_def.specs.declared.Class.{Class}
use Rattle.flow_def.specs.declared.Class.TheVariants.{Adjusted}
use Rattle.flow_def.specs.Flows.{stream_at, amount_at}
use Rattle.flow_def.specs.Certificate.{every}
use Rattle.flow_def.proofs.Certified.{every_at, every_all, every_off}
use Rattle.num_bytes.proofs.Lists.{values_long, values_at}
use Rattle.sheet_def.specs.declared.Entry.{Entry}
use Rattle.sheet_def.specs.Sheets.{known}
use Rattle.foreign_def.specs.Passing.{number_limit, place_number, difference}
use Rattle.foreign_def.specs.Test.{numbers_fit, flow_fits, flows_fit, flows_shown}
use Rattle.sheet_def.specs.Calls.{no_entry}
use Rattle.sheet_cost.proofs.Costing.{size_fits, minus_size}
use Rattle.foreign_stream.proofs.Fitting.{coded_fits, coded_is}

-- A test of elements of an array: one that fails, and none.
module _ (n : ℕ) (test : ℕ → Bool) where
  -- One that fails: not all hold.
  pub one_fails : (k : ℕ) → k < n → test k ≡ false → false ≡ every n test
  one_fails k l e = sym (every_off n test k l e)

  -- No test fails.
  pub none_fails : (m : ℕ) → n ≤ m → ((k : ℕ) → k < m → test k ≡ true) → true ≡ every n test
  none_fails m h all = sym (every_all n test (λ k l. all k (omega arith)))

  -- A test of each of them.
  pub all_hold : (m : ℕ) → m ≡ n → (b : Bool) → (b ≡ true ↔ ((k : ℕ) → k < m → test k ≡ true)) → b ≡ every n test
  all_hold m h b t = same_test b _ (λ y. every_all n test (λ k l. t.0 y k (omega arith))) (λ y. t.1 (λ k l. every_at n test y k (omega arith)))

-- Numbers.
module _ (n : ℕ) (numbers : List ℤ) where
  abbrev small : ℕ → Bool
  small u = leb (nat_abs (place_number numbers u)) number_limit

  -- One for each place: the test of all of them decides.
  pub all_tested : length numbers ≡ n + 1 → (b : Bool) → (b ≡ true ↔ ((k : ℕ) → k < length numbers → small k ≡ true)) → b ≡ numbers_fit n numbers
  all_tested h b t = rw (eq-eqb (length numbers) (suc n) (omega arith)) (all_hold (suc n) small (length numbers) (omega arith) b t)

  -- What fits.
  module _ (e : numbers_fit n numbers ≡ true) where
    -- There is one number for each place.
    pub fit_long : length numbers ≡ suc n
    fit_long = eqb-true (length numbers) (suc n) (and_left (eqb (length numbers) (suc n)) _ e)

    -- Numbers that fit are small.
    pub fit_small : (u : ℕ) → u ≤ n → nat_abs (place_number numbers u) ≤ number_limit
    fit_small u l = leb-true _ number_limit (every_at (suc n) small (and_right (eqb (length numbers) (suc n)) _ e) u (omega arith))

-- The difference of two numbers within the limit.
module _ (x y : ℤ) (f : SFits w64 x) (g : SFits w64 y) (h : nat_abs x ≤ number_limit) (k : nat_abs y ≤ number_limit) where
  apart : SFits w64 (x -ℤ y)
  apart = size_fits (x -ℤ y) (omega (arith, minus_size x y))

  -- The difference fits.
  pub difference_fits : SFits w64 (to_z w64 (of_z w64 x) -ℤ to_z w64 (of_z w64 y))
  difference_fits = coded_fits x y f g apart

  -- It is the difference, read back from its bits.
  pub difference_is : to_z w64 (of_z w64 (to_z w64 (of_z w64 x) -ℤ to_z w64 (of_z w64 y))) ≡ x -ℤ y
  difference_is = coded_is x y f g apart

-- The flows that are shown.
pub shown_all : (classes : List Class) (entries : List Entry) (flows : List ℤ) → length flows ≡ max_streams
    → ((k : ℕ) → k < max_streams → get_or flows k (pos 0) ≡ pick (known (get_or classes k Adjusted)) (get_or entries k no_entry).flow (pos 0)) → flows ≡ flows_shown classes entries
unfolding flows_shown
shown_all classes entries flows l h =
    let f : ℕ → ℤ = λ k. pick (known (get_or classes k Adjusted)) (get_or entries k no_entry).flow (pos 0) in
    ext_get_or (pos 0) flows (values max_streams f) (l ∙ sym (values_long f max_streams))
    (λ k b. let m : k < max_streams = rw l at b in h k m ∙ sym (values_at f (pos 0) max_streams k m))

-- Flows of a plant in an array.
module _ (p : Arrays.Plant) (a : Accepted p) (flows numbers : List ℤ) where
  abbrev test : List Stream → ℕ → Bool
  test ss k = flow_fits (stream_at ss k) (amount_at flows k) (difference numbers (stream_at ss k))

  -- The test of one stream, by the array.
  test_at : (k : ℕ) → k < p.count → test (plant_of p).streams k ≡ test p.streams k
  test_at k l = rw (listed_at p a k l)

  -- One flow does not fit.
  pub flow_fails : (k : ℕ) → k < p.count → test p.streams k ≡ false → false ≡ flows_fit (plant_of p).streams (amount_at flows) numbers
  flow_fails k l e = one_fails (length (plant_of p).streams) (test (plant_of p).streams) k (rw (all_listed p a) l) (test_at k l ∙ e)

  -- All flows fit.
  pub no_flow_fails : ((k : ℕ) → k < p.count → test p.streams k ≡ true) → true ≡ flows_fit (plant_of p).streams (amount_at flows) numbers
  no_flow_fails all =
      none_fails (length (plant_of p).streams) (test (plant_of p).streams) p.count (rw (all_listed p a) (omega arith)) (λ k l. test_at k l ∙ all k l)

  -- The ends of a stream have numbers, within the limit.
  pub ends_fit : numbers_fit p.units numbers ≡ true → (k : ℕ) → k < p.count
      → let s = get_or p.streams k no_stream in
      ((s.from < length numbers) × (s.to < length numbers))
      × ((nat_abs (place_number numbers s.from) ≤ number_limit) × (nat_abs (place_number numbers s.to) ≤ number_limit))
  ends_fit e k l =
      let w = a.within.each k l in
      let long = fit_long p.units numbers e in
      ((omega (arith, w.from_in), omega (arith, w.to_in)), (fit_small p.units numbers e _ w.from_in, fit_small p.units numbers e _ w.to_in))

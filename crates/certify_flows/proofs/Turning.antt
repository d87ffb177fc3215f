-- Streams tested one after the other, and their nets.
use mathlib.Core.Path.{◌≡◌, refl, sym, ◌∙◌, ap, ap₂}
use mathlib.Core.Bool.{true}
use mathlib.Core.List.{List}
use lib.IntN.{ℤ, pos, nat_abs, ◌+ℤ◌, ◌-ℤ◌}
use Prim.Native.Nat.{ℕ, suc, ◌+◌, ◌*◌, ◌^◌, ◌≤◌, ◌<◌}
use native.Mathlib.Omega.{arith}
use native.Mathlib.Numerals.{add-one}
use lib.Dec.{leb}
use lib.ListN.{length}
use mir.Syntax.{w64}
use mir.Val.{SFits, to_z, of_z}
use mir.ValLaws.{to_z-of_z}
use borrow.Author.Tests.{leb-true}
use Rattle.num_bytes.proofs.Integers.{canon, Z_diff, plus_size}
use Rattle.plant_def.specs.declared.Stream.{Stream}
use Rattle.flow_def.specs.Flows.{amount_at}
use Rattle.flow_def.specs.Nets.{brought}
use Rattle.flow_def.specs.Certificate.{listed_potential}
use Rattle.flow_def.proofs.Certified.{every_at}
use Rattle.sheet_cost.proofs.Costing.{size_fits, minus_size}
use Rattle.foreign_stream.proofs.Fitting.{coded_fits, coded_is}
use Rattle.certify_def.specs.Number.{max_wide_flow, max_wide_number}
use Rattle.certify_def.specs.Test.{WideWithin, all_small, Ready, net_to}

-- The difference of two numbers within the limit.
module _ (x y : ℤ) (f : SFits w64 x) (g : SFits w64 y) (h : nat_abs x ≤ max_wide_number) (k : nat_abs y ≤ max_wide_number) where
  apart : SFits w64 (x -ℤ y)
  apart = size_fits (x -ℤ y) (omega (arith, minus_size x y))

  -- The difference fits.
  pub difference_fits : SFits w64 (to_z w64 (of_z w64 x) -ℤ to_z w64 (of_z w64 y))
  difference_fits = coded_fits x y f g apart

  -- It is the difference, read back from its bits, and no larger than two numbers.
  pub difference_is : (to_z w64 (of_z w64 (to_z w64 (of_z w64 x) -ℤ to_z w64 (of_z w64 y))) ≡ x -ℤ y)
      × (nat_abs (to_z w64 (of_z w64 (to_z w64 (of_z w64 x) -ℤ to_z w64 (of_z w64 y)))) ≤ 2 ^ 62)
  difference_is = let e = coded_is x y f g apart in (e, rw e (omega (arith, minus_size x y)))

-- A number of a list whose first m are within a limit.
pub small_at : (m : ℕ) (zs : List ℤ) (limit : ℕ) → all_small m zs limit ≡ true → (k : ℕ) → k < m → nat_abs (amount_at zs k) ≤ limit
small_at m zs limit e k l = leb-true (nat_abs (amount_at zs k)) limit (every_at m (λ k. leb (nat_abs (amount_at zs k)) limit) e k l)

-- What a stream's test needs.
module _ (n c : ℕ) (s : ℕ → Stream) (flow numbers : List ℤ) (r : Ready n c s flow numbers) (k : ℕ) (l : k < c) where
  -- Its ends have numbers, within the limit;
  pub ends_numbered : (((s k).from < length numbers) × ((s k).to < length numbers))
      × ((nat_abs (listed_potential numbers (s k).from) ≤ max_wide_number) × (nat_abs (listed_potential numbers (s k).to) ≤ max_wide_number))
  ends_numbered =
      let w = r.each k l in
      let long = r.numbers_long in (
        (omega (arith, w.from_in), omega (arith, w.to_in)),
        (
          small_at (suc n) numbers max_wide_number r.numbers_small (s k).from (omega (arith, w.from_in)),
          small_at (suc n) numbers max_wide_number r.numbers_small (s k).to (omega (arith, w.to_in)),
        ),
      )

  -- it is within its limits.
  pub wide_here : WideWithin 255 (s k)
  wide_here =
      let w = r.each k l in
      record {
        from_in = omega (arith, w.from_in, r.few_units);
        to_in = omega (arith, w.to_in, r.few_units);
        weighty = w.weighty;
        light = w.light;
        within_range = w.within_range;
      }

-- The net by the first i streams, as the code holds it: no larger than so many flows.
pub record Netted (s : ℕ → Stream) (x : ℕ → ℤ) (u : ℕ) (net : ℤ) (i : ℕ) : Type 0 where
  pub is : net ≡ net_to s x u i
  pub size : nat_abs net ≤ i * (2 * max_wide_flow)

-- None yet.
pub netted_none : (s : ℕ → Stream) (x : ℕ → ℤ) (u : ℕ) → Netted s x u (pos 0) 0
netted_none s x u = record { is = refl; size = omega arith }

swap : (x y : ℤ) → x +ℤ y ≡ y +ℤ x
swap x y = rw (← canon x, ← canon y) (simp Z_diff (omega arith))

module _ (s : ℕ → Stream) (x : ℕ → ℤ) (u : ℕ) (net : ℤ) (i : ℕ) (t : Netted s x u net i) (b : ℤ) (l : i < 96) (g : SFits w64 b)
    (e : b ≡ brought u (s i) (x i)) (h : nat_abs b ≤ 2 * max_wide_flow) where
  whole : SFits w64 (net +ℤ b)
  whole = size_fits (net +ℤ b) (omega (arith, plus_size net b, t.size))

  -- The sum fits;
  pub netted_fits : SFits w64 (net +ℤ to_z w64 (of_z w64 b))
  netted_fits = rw (to_z-of_z w64 b g) whole

  -- one stream more.
  pub netted_more : Netted s x u (to_z w64 (of_z w64 (net +ℤ to_z w64 (of_z w64 b)))) (i + 1)
  netted_more = rw (to_z-of_z w64 b g, to_z-of_z w64 (net +ℤ b) whole) (record {
    is = rw (add-one i) (ap₂ ◌+ℤ◌ t.is e ∙ swap (net_to s x u i) (brought u (s i) (x i)));
    size = omega (arith, plus_size net b, t.size);
  })

-- The bits of 0,
pub no_bits : (z y : ℤ) → SFits w64 z → z ≡ y → of_z w64 z ≡ 0 → nat_abs y ≡ 0
no_bits z y f q e = ap nat_abs (sym q ∙ sym (to_z-of_z w64 z f) ∙ ap (to_z w64) e)

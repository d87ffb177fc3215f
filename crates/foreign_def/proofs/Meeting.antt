-- Potentials and amounts that meet the rules: the withheld streams can be filled in, and the whole is then a flow of least cost; no
-- amount is large.
use mathlib.Core.Path.{◌≡◌, refl, sym, ◌∙◌, ap, subst}
use mathlib.Core.Bool.{Bool, true, false, ◌&&◌}
use mathlib.Core.List.{List, [], ◌∷◌}
use mathlib.Core.Logic.{⊎_elim}
use lib.IntN.{ℤ, pos, neg_ℤ, nat_abs, ◌+ℤ◌, +ℤ_idl, +ℤ_idr, +ℤ_invr}
use Prim.Native.Nat.{ℕ, zero, suc, ◌+◌, ◌*◌, ◌≤◌, ◌<◌}
use native.Mathlib.Nat.{mul-le-mul_right}
use native.Mathlib.Omega.{arith}
use lib.ListN.{length}
use Rattle.num_bytes.specs.Choice.{pick}
use Rattle.num_bytes.proofs.Tests.{by_cases}
use Rattle.plant_def.specs.declared.Stream.{Stream}
use Rattle.plant_def.specs.Limits.{max_streams, max_range}
use Rattle.plant_def.specs.Plants.{Plant}
use Rattle.plant_def.specs.Within.{Within}
use Rattle.flow_def.specs.declared.Class.{Class}
use Rattle.flow_def.specs.declared.Class.TheVariants.{Adjusted, AsRead, Given, Withheld}
use Rattle.flow_def.specs.Flows.{stream_at, amount_at, balanced, in_range, allowed, cost, OfLeastCost}
use Rattle.flow_def.specs.Classes.{has, joined_to, unmetered_but, class_of, side_out}
use Rattle.num_bytes.proofs.Integers.{up, dn, plus_val, up_neg, dn_neg, size_val, parts, minus_none, pos_inj}
use Rattle.num_bytes.proofs.Sums.{sum_same}
use Rattle.flow_def.proofs.Nets.{count_of, stream_of, net_of, inside, listed, listed_size, listed_at, balanced_nets}
use Rattle.flow_def.proofs.Given.{class_means, number_is}
use Rattle.flow_def.proofs.Ranges.{allowed_of, range_of, balanced_of}
use Rattle.flow_def.proofs.Potentials.{StepAt, Steps, Certificate, share, cost_one, least}
use Rattle.solve_def.proofs.Overs.{over_to}
use Rattle.solve_def.proofs.Tall.{tall}
use Rattle.sheet_def.specs.Sheets.{known}
use Rattle.foreign_def.specs.Test.{withheld_only}
use Rattle.foreign_def.proofs.Filling.{Uncrossed, fill}
use Rattle.foreign_def.proofs.Stepping.{step_level, level_step, step_slopes}

-- A class that is not known is Withheld.
pub unknown_withheld : (c : Class) → known c ≡ false → c ≡ Withheld
unknown_withheld Adjusted e = cc
unknown_withheld AsRead e = cc
unknown_withheld Given e = cc
unknown_withheld Withheld e = refl

-- A class that is not withheld is known.
pub known_not : (c : Class) → (c ≡ Withheld → ⊥) → known c ≡ true
known_not c n = by_cases (known c) (λ t. t) (λ t. absurd (n (unknown_withheld c t)))

-- A class that is known is not withheld.
pub known_shown : (c : Class) → known c ≡ true → c ≡ Withheld → ⊥
known_shown c t e = let z : ◌≡◌ {A = ℕ} 0 1 = absurd (go (sym t ∙ ap known e)) in omega arith
  where
    go : true ≡ false → ⊥
    go q = let z : ◌≡◌ {A = ℕ} 0 1 = cc in omega arith

-- The step condition, the ranges, and nothing over in the sets that withheld streams join.
pub record Meets (p : Plant) (π : ℕ → ℤ) (x : ℕ → ℤ) : Type 0 where
  pub steps : Steps 1 π p.streams x
  pub ranges : (k : ℕ) → k < length p.streams → in_range 1 (stream_at p.streams k) (x k) ≡ true
  pub uncrossed : Uncrossed (withheld_only p) p x

module _ (p : Plant) (w : Within p) where
  -- A withheld stream has no meter; so it is in range, and without weight.
  pub withheld_unmetered : (k : ℕ) → known (class_of p k) ≡ false → (stream_of p k).metered ≡ false
  withheld_unmetered k e = (class_means p k Withheld (unknown_withheld (class_of p k) e)).0

  -- A metered stream is known.
  pub metered_known : (k : ℕ) → (stream_of p k).metered ≡ true → known (class_of p k) ≡ true
  metered_known k m = by_cases (known (class_of p k)) (λ t. t) (λ t. absurd (clash_of (withheld_unmetered k t)))
    where
      clash_of : (stream_of p k).metered ≡ false → ⊥
      clash_of q = let z : true ≡ false = sym m ∙ q in let y : ◌≡◌ {A = ℕ} 0 1 = cc in omega arith

  module _ (π x : ℕ → ℤ) (g : Meets p π x) where
    whole : (y : ℕ → ℤ) × (balanced p (listed p y) ≡ true) × ((k : ℕ) → withheld_only p k (stream_of p k) ≡ false → y k ≡ x k)
    whole = fill (withheld_only p) p w x g.uncrossed

    -- The withheld streams filled in.
    pub filled_in : List ℤ
    filled_in = listed p whole.0

    -- On a known stream it has the flow that is shown.
    pub filled_at : (k : ℕ) → k < count_of p → known (class_of p k) ≡ true → amount_at filled_in k ≡ x k
    unfolding filled_in
    filled_at k l n = listed_at p whole.0 k l ∙ whole.2 k (rw n)

    -- It balances.
    pub filled_balanced : balanced p filled_in ≡ true
    unfolding filled_in
    filled_balanced = whole.1

    filled_size : length filled_in ≡ count_of p
    unfolding filled_in
    filled_size = listed_size p whole.0

    -- It is in range.
    pub filled_allowed : allowed p filled_in ≡ true
    filled_allowed = allowed_of 1 p filled_in filled_balanced (λ k l. by_cases (known (class_of p k))
        (λ t. subst (λ (z : ℤ). in_range 1 (stream_of p k) z ≡ true) (sym (filled_at k l t)) (g.ranges k l))
        (λ t. rw (withheld_unmetered k t)))

    -- The numbers certify it.
    pub filled_certified : Certificate p filled_in π
    filled_certified = record {
      balance = filled_allowed;
      steps = λ k l. by_cases (known (class_of p k))
          (λ t. subst (λ (z : ℤ). StepAt 1 π (stream_of p k) z) (sym (filled_at k l t)) (g.steps k l))
          (λ t. let m = withheld_unmetered k t in level_step π (stream_of p k) m _ (step_level π (stream_of p k) m (x k) (g.steps k l)));
    }

    -- So it is of least cost.
    pub filled_least : OfLeastCost p filled_in
    filled_least = record { balance = filled_allowed; least = least p w π filled_in filled_certified }

    -- It costs what the amounts cost.
    pub filled_cost : cost p.streams filled_in ≡ cost p.streams (listed p x)
    filled_cost = pos_inj (
        cost_one p.streams filled_in filled_size
        ∙ sum_same (count_of p) _ _ (λ k l. by_cases (known (class_of p k))
        (λ t. ap (λ (z : ℤ). pos (share (stream_of p k) z)) (filled_at k l t ∙ sym (listed_at p x k l)))
        (λ t. none k (amount_at filled_in k) t ∙ sym (none k (amount_at (listed p x) k) t)))
        ∙ sym (cost_one p.streams (listed p x) (listed_size p x)))
      where
        none : (k : ℕ) (z : ℤ) → known (class_of p k) ≡ false → pos (share (stream_of p k) z) ≡ pos 0
        none k z t = ap pos (rw (withheld_unmetered k t) (omega arith))

-- A certified flow has no large amounts.
over_none : (n : ℕ) (z : ℕ → ℤ) → ((u : ℕ) → u < n → z u ≡ pos 0) → over_to n z ≡ 0
unfolding over_to
over_none zero z h = refl
over_none (suc n) z h = rw (h n (omega arith)) (omega (arith, over_none n z (λ u l. h u (omega arith))))

-- The most that a metered stream carries.
abbrev pub metered_most : ℕ
metered_most = max_streams * max_range

-- The most that a known stream carries.
abbrev pub known_most : ℕ
known_most = max_streams * metered_most

-- What metered streams take out of a set of places.
size_three : (a c z : ℤ) (b m : ℕ) → nat_abs (a +ℤ c) ≤ b → nat_abs z ≤ m → nat_abs (a +ℤ (c +ℤ z)) ≤ b + m
size_three a c z b m h k =
    let t = a +ℤ (c +ℤ z) in
    let u = plus_val a (c +ℤ z) in
    let v = plus_val c z in
    let o = plus_val a c in
    let q = size_val (a +ℤ c) in
    let r = size_val z in
    let y = size_val (a +ℤ (c +ℤ z)) in
    ⊎_elim (λ (e : up (a +ℤ (c +ℤ z)) ≡ 0). omega arith) (λ (e : dn (a +ℤ (c +ℤ z)) ≡ 0). omega arith) (parts (a +ℤ (c +ℤ z)))

out_most : (m f t : Bool) (x : ℤ) (b : ℕ) → (m ≡ true → nat_abs x ≤ b) → nat_abs (pick (m && f) x (pos 0) +ℤ pick (m && t) (neg_ℤ x) (pos 0)) ≤ b
out_most false f t x b h = omega arith
out_most true true true x b h = rw (+ℤ_invr x) (omega arith)
out_most true true false x b h = rw (+ℤ_idr x) (h refl)
out_most true false true x b h = rw (+ℤ_idl (neg_ℤ x)) (omega (arith, h refl, size_val x, size_val (neg_ℤ x), up_neg x, dn_neg x))
out_most true false false x b h = omega arith

side_most : (side : List ℕ) (ss : List Stream) (xs : List ℤ) (b : ℕ)
    → ((k : ℕ) → k < length ss → (stream_at ss k).metered ≡ true → nat_abs (amount_at xs k) ≤ b) → nat_abs (side_out side ss xs) ≤ length ss * b
side_most side [] xs b h = omega arith
side_most side (s ∷ ss) [] b h = omega arith
side_most side (s ∷ ss) (x ∷ xs) b h =
    omega (
      arith,
      size_three (pick (s.metered && has s.from side) x (pos 0)) (pick (s.metered && has s.to side) (neg_ℤ x) (pos 0)) (side_out side ss xs) b (length ss * b)
          (out_most s.metered (has s.from side) (has s.to side) x b (h 0 (omega arith)))
          (side_most side ss xs b (λ k l. h (suc k) (omega arith))),
    )

module _ (p : Plant) (w : Within p) (π : ℕ → ℤ) (xs : List ℤ) (c : Certificate p xs π) where
  -- A metered amount is at most what the others bring in range.
  pub metered_few : (k : ℕ) → k < count_of p → (stream_of p k).metered ≡ true → nat_abs (amount_at xs k) ≤ metered_most
  metered_few k l m =
      omega (
        arith,
        tall p.units max_range π p.streams (amount_at xs) (inside p w)
            (λ j o e. sym (minus_none (π (stream_of p j).to) (π (stream_of p j).from) (step_level π (stream_of p j) e (amount_at xs j) (c.steps j o))))
            (λ j o e. step_slopes p.units π (stream_of p j) (amount_at xs j) (w.each j o) e (range_of 1 p xs c.balance j o) (c.steps j o)) k l m,
        over_none (suc p.units) (net_of p.streams (amount_at xs)) (λ u o. balanced_nets p w xs (balanced_of 1 p xs c.balance) u (omega arith)),
        mul-le-mul_right max_range w.few_streams,
      )

  -- So every known amount is.
  pub known_few : (k : ℕ) → k < count_of p → known (class_of p k) ≡ true → nat_abs (amount_at xs k) ≤ known_most
  known_few k l n = by_cases (stream_of p k).metered
      (λ t. omega (arith, metered_few k l t))
      (λ t. given t)
    where
      given : (stream_of p k).metered ≡ false → nat_abs (amount_at xs k) ≤ known_most
      given t =
          let side = joined_to (unmetered_but k) p (stream_of p k).to in
          let e = sym (number_is p w xs (balanced_of 1 p xs c.balance) k l (known_shown (class_of p k) n)) in
          rw (e, t) (omega (arith, side_most side p.streams xs metered_most metered_few, mul-le-mul_right metered_most w.few_streams))

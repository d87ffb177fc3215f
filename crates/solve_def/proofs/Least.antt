-- The stream of least reduced cost: of the usable streams that leave the visited places, none has less.
use mathlib.Core.Path.{◌≡◌, refl, sym, ◌∙◌, ap}
use mathlib.Core.Bool.{Bool, true, false, ◌&&◌, not}
use mathlib.Core.List.{List}
use Prim.Native.Nat.{ℕ, zero, suc, ◌≤◌, ◌<◌}
use native.Mathlib.Omega.{arith}
use native.Mathlib.Decide.{ℕ_discrete}
use borrow.Author.Tests.{ltb-true, ltb-false, le-ltb}
use lib.Dec.{ltb}
use lib.ListN.{get_or}
use Rattle.num_bytes.specs.Choice.{pick}
use Rattle.num_bytes.proofs.Tests.{by_cases, clash}
use Rattle.plant_def.specs.declared.Stream.{Stream}
use Rattle.flow_def.specs.Flows.{stream_at}
use Rattle.solve_def.specs.ReducedCosts.{reduced_cost_at, Crossing, At, Nothing, lesser, by_ends, considered, least_to}

-- A test is not both the same as another and its opposite.
pub opposed : {A : Type 0} (a b : Bool) → a ≡ b → a ≡ not b → A
opposed a true e g = clash a e g
opposed a false e g = clash a g e

-- Stream k is not left alone.
abbrev pub Usable : List Stream → ℕ → ℕ → Type 0
Usable ss skip k = (stream_at ss k).metered && ltb k skip ≡ false

-- None is before number 0.
pub all_usable : (ss : List Stream) (k : ℕ) → Usable ss 0 k
all_usable ss k = go (stream_at ss k).metered
  where
    go : (b : Bool) → b && ltb k 0 ≡ false
    go true = le-ltb k 0 (omega arith)
    go false = refl

-- Whether the start and the end of stream k are visited.
abbrev pub start_in : List Stream → List Bool → ℕ → Bool
start_in ss ls k = get_or ls (stream_at ss k).from false

-- Whether stream k ends at a visited place.
abbrev pub end_in : List Stream → List Bool → ℕ → Bool
end_in ss ls k = get_or ls (stream_at ss k).to false

-- Stream i leaves the visited places with reduced cost g, no usable one among the first n does with less, and none before it with as little.
pub record Least (ss : List Stream) (xs ps : List ℕ) (ls : List Bool) (d skip n i g : ℕ) : Type 0 where
  pub below : i < n
  pub usable : Usable ss skip i
  pub leaves : start_in ss ls i ≡ not (end_in ss ls i)
  pub is : g ≡ reduced_cost_at ss xs ps d i (start_in ss ls i)
  pub least : (k : ℕ) → k < n → Usable ss skip k → start_in ss ls k ≡ not (end_in ss ls k) → g ≤ reduced_cost_at ss xs ps d k (start_in ss ls k)
  pub first : (k : ℕ) → k < n → Usable ss skip k → start_in ss ls k ≡ not (end_in ss ls k) → reduced_cost_at ss xs ps d k (start_in ss ls k) ≤ g → i ≤ k

-- What an answer means.
abbrev pub Answers : List Stream → List ℕ → List ℕ → List Bool → ℕ → ℕ → ℕ → Crossing → Type 0
Answers ss xs ps ls d skip n Nothing = (k : ℕ) → k < n → Usable ss skip k → start_in ss ls k ≡ end_in ss ls k
Answers ss xs ps ls d skip n (At i g) = Least ss xs ps ls d skip n i g

module _ (ss : List Stream) (xs ps : List ℕ) (ls : List Bool) (d skip : ℕ) where
  upto : (P : ℕ → Type 0) (n : ℕ) → ((k : ℕ) → k < n → P k) → P n → (k : ℕ) → k < suc n → P k
  upto P n h p k l = elim (ℕ_discrete k n) [ yes e ↦ rw e p | no e ↦ h k (omega arith) ]

  abbrev NoLess : ℕ → ℕ → Type 0
  NoLess g k = Usable ss skip k → start_in ss ls k ≡ not (end_in ss ls k) → g ≤ reduced_cost_at ss xs ps d k (start_in ss ls k)

  abbrev NoEarlier : ℕ → ℕ → ℕ → Type 0
  NoEarlier i g k = Usable ss skip k → start_in ss ls k ≡ not (end_in ss ls k) → reduced_cost_at ss xs ps d k (start_in ss ls k) ≤ g → i ≤ k

  -- Stream n is left alone, or does not leave the visited places.
  more : (n : ℕ) (f : Crossing) → Answers ss xs ps ls d skip n f → (Usable ss skip n → start_in ss ls n ≡ end_in ss ls n) → Answers ss xs ps ls d skip (suc n) f
  more n Nothing h e = upto (λ k. Usable ss skip k → start_in ss ls k ≡ end_in ss ls k) n h e
  more n (At i g) h e = record {
    below = omega (arith, h.below);
    usable = h.usable;
    leaves = h.leaves;
    is = h.is;
    least = upto (NoLess g) n h.least (λ u c. opposed (start_in ss ls n) (end_in ss ls n) (e u) c);
    first = upto (NoEarlier i g) n h.first (λ u c m. opposed (start_in ss ls n) (end_in ss ls n) (e u) c);
  }

  -- Stream n leaves them with reduced cost g.
  new : (n : ℕ) (f : Crossing) (g : ℕ) → Answers ss xs ps ls d skip n f → Usable ss skip n → start_in ss ls n ≡ not (end_in ss ls n)
      → g ≡ reduced_cost_at ss xs ps d n (start_in ss ls n) → Answers ss xs ps ls d skip (suc n) (lesser f n g)
  new n Nothing g h u c e = record {
    below = omega arith;
    usable = u;
    leaves = c;
    is = e;
    least = upto (NoLess g) n (λ k l v q. opposed (start_in ss ls k) (end_in ss ls k) (h k l v) q) (λ v q. omega arith);
    first = upto (NoEarlier n g) n (λ k l v q m. opposed (start_in ss ls k) (end_in ss ls k) (h k l v) q) (λ v q m. omega arith);
  }
  new n (At j m) g h u c e = by_cases (ltb g m)
      (λ t. rw t (record {
        below = omega arith;
        usable = u;
        leaves = c;
        is = e;
        least = upto (NoLess g) n (λ k l v q. omega (arith, h.least k l v q, ltb-true g m t)) (λ v q. omega arith);
        first = upto (NoEarlier n g) n (λ k l v q o. omega (arith, h.least k l v q, ltb-true g m t)) (λ v q o. omega arith);
      }))
      (λ t. rw t (record {
        below = omega (arith, h.below);
        usable = h.usable;
        leaves = h.leaves;
        is = h.is;
        least = upto (NoLess m) n h.least (λ v q. omega (arith, ltb-false g m t));
        first = upto (NoEarlier j m) n h.first (λ v q o. omega (arith, h.below));
      }))

  crossed : (n : ℕ) (f : Crossing) (a b : Bool) → start_in ss ls n ≡ a → end_in ss ls n ≡ b → Answers ss xs ps ls d skip n f → Usable ss skip n
      → Answers ss xs ps ls d skip (suc n) (by_ends a b f (lesser f n (reduced_cost_at ss xs ps d n true)) (lesser f n (reduced_cost_at ss xs ps d n false)))
  crossed n f true true p q h u = more n f h (λ v. p ∙ sym q)
  crossed n f false false p q h u = more n f h (λ v. p ∙ sym q)
  crossed n f true false p q h u = new n f (reduced_cost_at ss xs ps d n true) h u (p ∙ ap not (sym q)) (ap (reduced_cost_at ss xs ps d n) (sym p))
  crossed n f false true p q h u = new n f (reduced_cost_at ss xs ps d n false) h u (p ∙ ap not (sym q)) (ap (reduced_cost_at ss xs ps d n) (sym p))

  -- What is found is the least.
  pub least_good : (n : ℕ) → Answers ss xs ps ls d skip n (least_to ss xs ps ls d skip n)
  unfolding least_to considered
  least_good zero = λ k l. absurd (omega arith)
  least_good (suc n) = go ((stream_at ss n).metered && ltb n skip) refl (least_to ss xs ps ls d skip n) (least_good n)
    where
      go : (b : Bool) → (stream_at ss n).metered && ltb n skip ≡ b → (f : Crossing) → Answers ss xs ps ls d skip n f
          → Answers ss xs ps ls d skip (suc n)
          (pick b f (by_ends (start_in ss ls n) (end_in ss ls n) f (lesser f n (reduced_cost_at ss xs ps d n true)) (lesser f n (reduced_cost_at ss xs ps d n false))))
      go true e f h = more n f h (λ u. clash _ e u)
      go false e f h = crossed n f (start_in ss ls n) (end_in ss ls n) refl refl h e

  -- There is one answer.
  answer_one : (n : ℕ) (f g : Crossing) → Answers ss xs ps ls d skip n f → Answers ss xs ps ls d skip n g → f ≡ g
  answer_one n Nothing Nothing a b = refl
  answer_one n Nothing (At j h) a b = opposed (start_in ss ls j) (end_in ss ls j) (a j b.below b.usable) b.leaves
  answer_one n (At i g) Nothing a b = opposed (start_in ss ls i) (end_in ss ls i) (b i a.below a.usable) a.leaves
  answer_one n (At i g) (At j h) a b =
      let le = a.least j b.below b.usable b.leaves in
      let ge = b.least i a.below a.usable a.leaves in
      let same : g ≡ h = omega (arith, le, ge, a.is, b.is) in
      let before = a.first j b.below b.usable b.leaves (omega (arith, a.is, b.is)) in
      let after = b.first i a.below a.usable a.leaves (omega (arith, a.is, b.is)) in
      let one : i ≡ j = omega (arith, before, after) in
      rw (same, one)

  -- So what answers is the stream of least reduced cost.
  pub answers_same : (n : ℕ) (f : Crossing) → Answers ss xs ps ls d skip n f → least_to ss xs ps ls d skip n ≡ f
  answers_same n f a = answer_one n (least_to ss xs ps ls d skip n) f (least_good n) a

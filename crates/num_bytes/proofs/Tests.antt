-- Tests and choices: what a conjunction, a disjunction, a choice and a refusal say.
use mathlib.Core.Path.{◌≡◌, refl, sym, ap, ◌∙◌}
use mathlib.Core.Bool.{Bool, true, false, ◌&&◌, ◌||◌, true≢false, false≢true}
use Prim.Native.Nat.{ℕ, zero, suc}
use native.Mathlib.Omega.{arith}
use lib.Dec.{eqb}
use borrow.Author.Tests.{eq-eqb, ne_eqb}
use Rattle.num_bytes.specs.Choice.{pick, refuse_if, first_of}

-- A split on a test that keeps its equation.
pub by_cases : {A : Type 0} (b : Bool) → (b ≡ true → A) → (b ≡ false → A) → A
by_cases true f g = f refl
by_cases false f g = g refl

-- A test has one value.
pub clash : {A : Type 0} (b : Bool) → b ≡ true → b ≡ false → A
clash b t f = absurd (true≢false (sym t ∙ f))

-- Both tests hold: the first,
pub and_left : (a b : Bool) → a && b ≡ true → a ≡ true
and_left true b e = refl
and_left false b e = absurd (false≢true e)

-- and the second.
pub and_right : (a b : Bool) → a && b ≡ true → b ≡ true
and_right true b e = e
and_right false b e = absurd (false≢true e)

-- Where each holds, both do.
pub and_both : (a b : Bool) → a ≡ true → b ≡ true → a && b ≡ true
and_both a b p q = rw (p, q)

-- Where the second does not hold, not both do.
pub and_none : (a : Bool) → a && false ≡ false
and_none true = refl
and_none false = refl

-- Where the first holds, one of them does.
pub or_left : (a b : Bool) → a ≡ true → a || b ≡ true
or_left a b p = rw p

-- Where the second holds, one of them does.
pub or_right : (a b : Bool) → b ≡ true → a || b ≡ true
or_right true b p = refl
or_right false b p = p

-- One of them holds: by which.
pub or_cases : {A : Type 0} (a b : Bool) → a || b ≡ true → (a ≡ true → A) → (b ≡ true → A) → A
or_cases true b e f g = f refl
or_cases false b e f g = g e

-- Neither of two tests.
pub or_none_left : (a b : Bool) → a || b ≡ false → a ≡ false
or_none_left true b e = absurd (true≢false e)
or_none_left false b e = refl

-- Neither holds: not the second.
pub or_none_right : (a b : Bool) → a || b ≡ false → b ≡ false
or_none_right true b e = absurd (true≢false e)
or_none_right false b e = e

-- Two tests, each true where the other is, are one.
pub same_test : (a b : Bool) → (a ≡ true → b ≡ true) → (b ≡ true → a ≡ true) → a ≡ b
same_test true b f g = sym (f refl)
same_test false true f g = g refl
same_test false false f g = refl

-- A property of a choice, from its two values.
pub picked : {A : Type 0} (P : A → Type 0) (b : Bool) (x y : A) → (b ≡ true → P x) → (b ≡ false → P y) → P (pick b x y)
picked P true x y f g = f refl
picked P false x y f g = g refl

-- No refusal: the test fails; of two refusals neither applies.
pub refuse_none : (b : Bool) (f : ℕ) → refuse_if b (suc f) ≡ 0 → b ≡ false
refuse_none true f e = absurd (omega arith)
refuse_none false f e = refl

-- No refusal of two: none of the first,
pub first_none_left : (f g : ℕ) → first_of f g ≡ 0 → f ≡ 0
first_none_left zero g e = refl
first_none_left (suc f) g e = absurd (omega arith)

-- and none of the second.
pub first_none_right : (f g : ℕ) → first_of f g ≡ 0 → g ≡ 0
first_none_right zero g e = e
first_none_right (suc f) g e = absurd (omega arith)

-- A fault that is found comes first.
pub first_some : (f g h : ℕ) → f ≡ g → (f ≡ 0 → ⊥) → f ≡ first_of g h
first_some f zero h e z = absurd (z e)
first_some f (suc g) h e z = e

-- Of two refusals the first where it is one, else the second.
pub first_is : (f g : ℕ) → (f ≡ 0 → ⊥) → f ≡ first_of f g
first_is zero g n = absurd (n refl)
first_is (suc f) g n = refl

-- After no refusal, the second.
pub second_is : (f g : ℕ) → f ≡ 0 → g ≡ first_of f g
second_is f g e = rw e

-- A fault f, found to be g: the refusal where it is one, else the value.
module _ {A : Type 0} (f g : ℕ) (x : A) (refused : ℕ → A) (e : f ≡ g) where
  -- A refusal is answered,
  pub refused_by : (f ≡ 0 → ⊥) → refused f ≡ pick (eqb g 0) x (refused g)
  refused_by h = simp (ne_eqb g 0 (λ d. h (e ∙ d))) (ap refused e)

  -- and no refusal is answered by the value.
  pub accepted_by : f ≡ 0 → x ≡ pick (eqb g 0) x (refused g)
  accepted_by h = simp (eq-eqb g 0 (sym e ∙ h))

-- A fault r, found to be f, before others g.
module _ (r f g : ℕ) (e : r ≡ f) where
  -- A refusal comes first;
  pub this_first : (r ≡ 0 → ⊥) → r ≡ first_of f g
  this_first h = e ∙ first_is f g (λ (z : f ≡ 0). h (e ∙ z))

  -- after none, what comes next decides.
  pub others_then : r ≡ 0 → (q : ℕ) → q ≡ g → q ≡ first_of f g
  others_then h q d = d ∙ second_is f g (sym e ∙ h)

-- A choice of one value.
pub pick_same : {A : Type 0} (b : Bool) (x : A) → pick b x x ≡ x
pick_same true x = refl
pick_same false x = refl

-- Numbers of our own: the solver's potentials serve, so every plant that is read has numbers, or an overfull set.
use mathlib.Core.Path.{◌≡◌, refl, sym, ◌∙◌, subst}
use mathlib.Core.Bool.{Bool, true}
use mathlib.Core.List.{List}
use lib.IntN.{ℤ, pos, +ℤ_invr}
use Prim.Native.Nat.{ℕ, suc, ◌≤◌, ◌<◌}
use native.Mathlib.Omega.{arith}
use borrow.Author.Tests.{le-leb, lt-leb, ltb-true, ltb-false}
use lib.Dec.{leb, ltb}
use lib.ListN.{length, get_or, take, get_or-eq_default}
use lib.Seq.{ext_get_or, get_or-take, length-take-le}
use Rattle.num_bytes.specs.Choice.{pick}
use Rattle.num_bytes.specs.Inner.{values}
use Rattle.num_bytes.proofs.Tests.{by_cases, clash}
use Rattle.plant_def.specs.declared.Plant as Arrays
use Rattle.plant_def.specs.Limits.{places}
use Rattle.plant_def.specs.Plants.{Plant}
use Rattle.plant_def.specs.Within.{Within, Accepted}
use Rattle.plant_def.specs.Says.{arrayed, plant_of}
use Rattle.plant_def.proofs.Arrayed.{within_of, array_accepted}
use Rattle.plant_def.proofs.Held.{plant_held}
use Rattle.flow_def.specs.Flows.{allowed}
use Rattle.flow_def.specs.Overfull.{Overfull}
use Rattle.num_bytes.proofs.Lists.{values_long, values_at}
use Rattle.flow_def.proofs.Overfull.{overfull_none}
use Rattle.solve_def.specs.declared.Solved.{Solved}
use Rattle.solve_def.specs.Model.{no_hint, settled}
use Rattle.solve_def.specs.Whole.{solved_from}
use Rattle.solve_def.specs.Promise.{flow_of, Solution, Right}
use Rattle.solve_def.proofs.Theorem.{from_none, solved_right}
use Rattle.sheet_def.proofs.Opening.{right_found, right_overfull}
use Rattle.foreign_def.specs.Numbers.{PlaceNumbers, no_numbers, Serve, Numbered, NumbersOf}
use Rattle.foreign_def.specs.Test.{potential_from, NumberedBy}
use Rattle.foreign_def.proofs.Numbers.{solution_certifies, solution_few}
use Rattle.foreign_def.proofs.Passing.{certified_serve}

-- The first numbers are the potentials'.
module _ (n : ℕ) (ps : List ℕ) (few : suc n ≤ places) (numbers : List ℤ) (b : NumberedBy n ps numbers) where
  long : length (take (suc n) numbers) ≡ suc n
  long = length-take-le (suc n) numbers (omega (arith, b.long))

  -- The numbers are the potentials less the outside's.
  pub numbers_are : take (suc n) numbers ≡ values (suc n) (potential_from ps)
  numbers_are =
      ext_get_or (pos 0) (take (suc n) numbers) (values (suc n) (potential_from ps)) (long ∙ sym (values_long (potential_from ps) (suc n)))
      (λ u l. let h : u < suc n = rw long at l in
      get_or-take (suc n) numbers u (pos 0) h ∙ b.each u (omega arith) ∙ sym (values_at (potential_from ps) (pos 0) (suc n) u h))

-- Numbers by the potentials of a solution.
module _ (p : Arrays.Plant) (a : Accepted p) (s : Solved) (r : Solution p s) where
  serves : Serve (plant_of p) (values (suc p.units) (potential_from s.potentials))
  serves = certified_serve (plant_of p) (within_of p a) (potential_from s.potentials) (solution_few p a s r) _ (solution_certifies p a s r)

  -- A solution's numbers are numbers of its plant.
  pub solution_numbered : (numbers : List ℤ) → NumberedBy p.units s.potentials numbers
      → Numbered (plant_of p) (record { number = 0; count = suc p.units; numbers = numbers })
  solution_numbered numbers b = record {
    number = refl;
    count = refl;
    serve = subst (Serve (plant_of p)) (sym (numbers_are p.units s.potentials (omega (arith, a.within.few_units)) numbers b)) serves;
    outside = b.each 0 (omega arith) ∙ +ℤ_invr (pos (get_or s.potentials 0 0));
    past = b.past;
    long = b.long;
  }

-- Where some flow is in range there are numbers; where a set is overfull there is none.
module _ (p : Plant) (w : Within p) (r : PlaceNumbers) where
  -- Where some flow is in range, numbers of the places are the plant's answer.
  pub numbers_of : (xs : List ℤ) → allowed p xs ≡ true → Numbered p r → NumbersOf p r
  numbers_of xs h n = record { some = λ ys e. n; none = λ none. clash (allowed p xs) h (none xs) }

  -- An overfull plant has none: 19.
  pub no_numbers_of : (ms : List Bool) → Overfull p ms → r ≡ no_numbers 19 → NumbersOf p r
  no_numbers_of ms o e = record {
    some = λ ys h. clash (allowed p ys) h (overfull_none p w ms o 1 ys (omega arith));
    none = λ none. e;
  }

-- So there is an answer for every plant.
module _ (p : Plant) (w : Within p) where
  abbrev array : Arrays.Plant
  array = arrayed p

  held : Accepted (arrayed p)
  held = array_accepted p w

  solved : Solved
  solved = solved_from p.units (plant_of (arrayed p)).streams (settled (plant_of (arrayed p)).streams no_hint)

  right : Right array solved
  unfolding solved
  right = solved_right array held _ (from_none (plant_of array) (within_of array held))

  listed : List ℤ
  listed = values places (λ u. pick (leb u p.units) (potential_from solved.potentials u) (pos 0))

  numbered : NumberedBy p.units solved.potentials listed
  unfolding listed
  numbered = record {
    long = values_long f places;
    each = λ u l. values_at f (pos 0) places u (omega (arith, w.few_units)) ∙ rw (le-leb u p.units l) refl;
    past = λ u l. by_cases (ltb u places)
        (λ t. values_at f (pos 0) places u (ltb-true u places t) ∙ rw (lt-leb u p.units l) refl)
        (λ t. get_or-eq_default (values places f) (pos 0) {n = u} (omega (arith, values_long f places, ltb-false u places t)));
  }
    where
      f : ℕ → ℤ
      f u = pick (leb u p.units) (potential_from solved.potentials u) (pos 0)

  -- Every plant has an answer.
  pub some_numbers : (r : PlaceNumbers) × NumbersOf p r
  some_numbers = subst (λ (q : Plant). (r : PlaceNumbers) × NumbersOf q r) (plant_held p w.few_streams) (by_cases solved.found
      (λ t. let s = right_found array solved right t in (
        record { number = 0; count = suc p.units; numbers = listed },
        numbers_of (plant_of array) (within_of array held) _ (flow_of array solved) s.cheapest.balance (solution_numbered array held solved s listed numbered),
      ))
      (λ t. (no_numbers 19, no_numbers_of (plant_of array) (within_of array held) _ _ (right_overfull array solved right t) refl)))

-- The promises of the check and of the numbers are kept: the check's answer is one, what it vouches for is so, and what must pass
-- passes, with our own numbers too.
use mathlib.Core.Path.{◌≡◌, refl, sym, ◌∙◌, ap, subst}
use mathlib.Core.Bool.{Bool, true}
use mathlib.Core.List.{List}
use mathlib.Core.Logic.{◌⊎◌, inl, inr, ⊎_elim}
use lib.IntN.{ℤ}
use Prim.Native.Nat.{ℕ}
use native.Mathlib.Omega.{arith}
use borrow.Author.Tests.{eq-eqb}
use lib.ListN.{take}
use Rattle.num_bytes.specs.Choice.{pick}
use Rattle.num_bytes.specs.Inner.{PickT}
use Rattle.num_bytes.proofs.Tests.{by_cases, clash}
use Rattle.plant_def.specs.Plants.{Plant}
use Rattle.plant_def.specs.Files.{Got, bad, got, read_plant}
use Rattle.plant_def.specs.Within.{Within}
use Rattle.plant_def.proofs.Accepted.{refused, read_within}
use Rattle.flow_def.specs.Flows.{allowed, Cheapest}
use Rattle.flow_def.specs.Classes.{has, joined_to}
use Rattle.flow_def.proofs.Reach.{joined_self}
use Rattle.sheet_def.specs.declared.Sheet.{Sheet}
use Rattle.sheet_def.specs.Counters.{next_of}
use Rattle.sheet_def.specs.Sheets.{SheetParts}
use Rattle.sheet_def.specs.Drawings.{plant_parts}
use Rattle.sheet_def.specs.Sentences.{call_fault, Refused, Overfilled}
use Rattle.sheet_def.specs.Says.{Drawn, SheetWith, SheetSays}
use Rattle.sheet_def.specs.Kept.{Reopened, no_sheet, some_sheet, read_sheet}
use Rattle.sheet_def.proofs.Demands.{demands, drawn_kept}
use Rattle.foreign_def.specs.Passing.{withheld_on, Passes}
use Rattle.foreign_def.specs.Says.{CheckOf, CheckWith, CheckSays, Vouched, PassAll, ForeignSheets}
use Rattle.foreign_def.specs.Numbers.{PlaceNumbers, no_numbers, numbers_in, Serve, Numbered, NumbersOf, NumbersWith, NumbersSay, OwnNumbers}
use Rattle.foreign_def.specs.Test.{passes, check_with}
use Rattle.foreign_def.proofs.Passing.{joined_set, passed_least, our_flow}
use Rattle.foreign_def.proofs.Tested.{test_is}
use Rattle.foreign_def.proofs.Serving.{some_numbers}

-- Of a plant and a sheet that are read.
module _ (p : Plant) (w : Within p) (sheet : SheetParts) (numbers : List ℤ) where
  -- The computed test answers as the rules do.
  pub check_of : CheckOf p sheet numbers (pick (passes p sheet numbers) 0 26)
  check_of = record {
    passed = λ g. rw ((test_is p w sheet numbers).1 g);
    broken = λ n. by_cases (passes p sheet numbers) (λ t. absurd (n ((test_is p w sheet numbers).0 t))) (λ t. rw t);
  }

  check_is : (r : ℕ) → CheckOf p sheet numbers r → r ≡ pick (passes p sheet numbers) 0 26
  check_is r c = by_cases (passes p sheet numbers) (λ t. rw t (c.passed ((test_is p w sheet numbers).0 t)))
      (λ t. rw t (c.broken (λ g. clash (passes p sheet numbers) ((test_is p w sheet numbers).1 g) t)))

  check_passed : CheckOf p sheet numbers 0 → Passes p sheet numbers
  check_passed c = by_cases (passes p sheet numbers) (λ t. (test_is p w sheet numbers).0 t)
      (λ t. let z : 0 ≡ 26 = c.broken (λ g. clash (passes p sheet numbers) ((test_is p w sheet numbers).1 g) t) in absurd (omega arith))

-- The answer as it is computed.
pub check_says : (file bytes : List ℕ) (numbers : List ℤ) → CheckSays file bytes numbers (check_with (read_plant file) (read_sheet bytes) numbers)
check_says file bytes numbers = go (read_plant file) refl (read_sheet bytes)
  where
    go : (g : Got) → read_plant file ≡ g → (s : Reopened) → CheckWith g s numbers (check_with g s numbers)
    go (bad f) e s = refl
    go (got p) e (no_sheet f) = refl
    go (got p) e (some_sheet s) = check_of p (read_within file p e) s numbers

said_is : (file bytes : List ℕ) (numbers : List ℤ) (r : ℕ) → CheckSays file bytes numbers r → r ≡ check_with (read_plant file) (read_sheet bytes) numbers
said_is file bytes numbers r = go (read_plant file) refl (read_sheet bytes)
  where
    go : (g : Got) → read_plant file ≡ g → (s : Reopened) → CheckWith g s numbers r → r ≡ check_with g s numbers
    go (bad f) e s c = c
    go (got p) e (no_sheet f) c = c
    go (got p) e (some_sheet s) c = check_is p (read_within file p e) s numbers r c

-- With both files read.
said_of : (file bytes : List ℕ) (numbers : List ℤ) (r : ℕ) (p : Plant) (sheet : SheetParts) → read_plant file ≡ got p → read_sheet bytes ≡ some_sheet sheet
    → CheckSays file bytes numbers r → CheckOf p sheet numbers r
said_of file bytes numbers r p sheet e f c =
    subst (λ (s : Reopened). CheckWith (got p) s numbers r) f (subst (λ (g : Got). CheckWith g (read_sheet bytes) numbers r) e c)

vouched : (file bytes : List ℕ) (numbers : List ℤ) → CheckSays file bytes numbers 0 → Vouched file bytes numbers
vouched file bytes numbers = go (read_plant file) refl (read_sheet bytes) refl
  where
    go : (g : Got) → read_plant file ≡ g → (s : Reopened) → read_sheet bytes ≡ s → CheckWith g s numbers 0 → Vouched file bytes numbers
    go (bad f) e s q c = absurd (refused file f e (sym c))
    go (got p) e (no_sheet f) q c = absurd (omega (arith, demands.reopening.refused bytes f q))
    go (got p) e (some_sheet s) q c =
        let w = read_within file p e in
        let g = check_passed p w s numbers c in
        let h = passed_least p w s numbers g in
        record {
          plant = p;
          listed = e;
          sheet = s;
          read = q;
          passes = g;
          shown = record { ours = g.ours; flow = h.0; least = h.1; shows = h.2 };
          costs = h.3;
        }

same_plant : (file : List ℕ) (p q : Plant) → read_plant file ≡ got p → read_plant file ≡ got q → q ≡ p
same_plant file p q e f = cc

-- Numbers that serve pass all that must pass.
module _ (file : List ℕ) (p : Plant) (e : read_plant file ≡ got p) (numbers : List ℤ) (serve : Serve p numbers) where
  -- The check answers 0 for our own sheets, and for each that differs only in showing another flow of least cost.
  pub pass_all : PassAll file p numbers
  pass_all = record {
    ours = λ office lasts o o' s r top says z c.
        let b = drawn_kept file office lasts o o' s top says z in
        let q = same_plant file p b.plant e b.listed in
        let cheap : Cheapest p b.flow = subst (λ (q : Plant). Cheapest q b.flow) q b.cheapest in
        let sheet = plant_parts office p b.flow (next_of office lasts) in
        (said_of file (take s.written o') numbers r p sheet e
        (subst (λ (q : Plant). read_sheet (take s.written o') ≡ some_sheet (plant_parts office q b.flow (next_of office lasts))) q b.read) c).passed
        (serve sheet (our_flow p (read_within file p e) b.flow office (next_of office lasts) cheap));
    others = λ sheet bytes r f q c. (said_of file bytes numbers r p sheet e q c).passed (serve sheet f);
  }

-- Of a plant with a flow in range.
some_pass : (file : List ℕ) (p : Plant) (ys : List ℤ) → read_plant file ≡ got p → allowed p ys ≡ true → (numbers : List ℤ) × PassAll file p numbers
some_pass file p ys e a =
    let n = some_numbers p (read_within file p e) in
    (numbers_in n.0, pass_all file p e (numbers_in n.0) (n.1.some ys a).serve)

-- The record of what is promised of the check.
pub foreign_sheets : ForeignSheets
foreign_sheets = record {
  sets = λ file p sheet u e l.
      let c : ℕ → Bool = λ v. has v (joined_to (withheld_on sheet) p u) in
      (c, joined_self (withheld_on sheet) p u, joined_set p (read_within file p e) sheet u);
  some = λ file bytes numbers. (check_with (read_plant file) (read_sheet bytes) numbers, check_says file bytes numbers);
  one = λ file bytes numbers r₁ r₂ a b. said_is file bytes numbers r₁ a ∙ sym (said_is file bytes numbers r₂ b);
  sound = vouched;
  none = λ file bytes numbers p sheet r e n q c.
      (said_of file bytes numbers r p sheet e q c).broken
      (λ g. let x = g.ours.1.some in clash (allowed p x.0) x.1.balance (n x.0));
  complete = some_pass;
}

-- Our own numbers.
some_answer : (file : List ℕ) → (r : PlaceNumbers) × NumbersSay file r
some_answer file = go (read_plant file) refl
  where
    go : (g : Got) → read_plant file ≡ g → (r : PlaceNumbers) × NumbersWith g r
    go (bad f) e = (no_numbers f, refl)
    go (got p) e = some_numbers p (read_within file p e)

-- By what the sheet call found.
module _ (file : List ℕ) (r : PlaceNumbers) (office : ℕ) (lasts o o' : List ℕ) (s : Sheet) where
  drawn_same : (p : Plant) → read_plant file ≡ got p → NumbersOf p r → Drawn p office lasts o o' s ⊎ Overfilled p lasts o o' s → r.number ≡ s.number
  drawn_same p e n (inl d) = (n.some d.0 d.1.balance).number ∙ sym (ap (λ (x : Sheet). x.number) d.2)
  drawn_same p e n (inr d) =
      ap (λ (x : PlaceNumbers). x.number)
      (n.none (λ ys. demands.nineteen.none file p d.0 e d.1 1 ys (omega arith)))
      ∙ sym (ap (λ (x : Sheet). x.number) d.2.0)

  refused_alike : NumbersSay file r → SheetSays file office lasts o o' s → call_fault office lasts o ≡ 0 → r.number ≡ s.number
  refused_alike n says z =
      let f = call_fault office lasts o in
      go (read_plant file) refl n (subst (λ (b : Bool). PickT b (SheetWith (read_plant file) office lasts o o' s) (Refused f lasts o o' s)) (eq-eqb f 0 z) says)
    where
      go : (g : Got) → read_plant file ≡ g → NumbersWith g r → SheetWith g office lasts o o' s → r.number ≡ s.number
      go (bad f) e m d = ap (λ (x : PlaceNumbers). x.number) m ∙ sym (ap (λ (x : Sheet). x.number) d.0)
      go (got p) e m d = drawn_same p e m d

-- Numbers that were handed over serve.
numbered : (file : List ℕ) (p : Plant) (r : PlaceNumbers) → read_plant file ≡ got p → NumbersOf p r → r.number ≡ 0 → Numbered p r
numbered file p r e n z = ⊎_elim
    (λ c. n.some c.0 c.1.balance)
    (λ o. absurd (omega (arith, z, ap (λ (x : PlaceNumbers). x.number) (n.none (λ ys. demands.nineteen.none file p o.0 e o.1 1 ys (omega arith))))))
    (demands.nineteen.either file p e)

-- The record of what is promised of our own numbers.
pub own_numbers : OwnNumbers
own_numbers = record {
  some = some_answer;
  refused = refused_alike;
  pass = λ file r p n z e.
      let m = subst (λ (g : Got). NumbersWith g r) e n in
      pass_all file p e (numbers_in r) (numbered file p r e m z).serve;
}

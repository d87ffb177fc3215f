-- The sheet's metered numbers are near to every flow in fractions of least cost.
use mathlib.Core.Path.{◌≡◌, sym, ap, ◌∙◌, subst}
use mathlib.Core.Logic.{⊎_elim}
use mathlib.Core.List.{List}
use lib.IntN.{ℤ, pos, ◌*ℤ◌}
use Prim.Native.Nat.{ℕ, ◌*◌, ◌≤◌}
use native.Mathlib.Nat.{mul-le-mul_left}
use native.Mathlib.Omega.{arith}
use borrow.Author.Tests.{eqb-true, eqb-false}
use lib.Dec.{eqb}
use lib.ListN.{length}
use Rattle.num_bytes.proofs.Tests.{by_cases, clash}
use Rattle.plant_def.specs.Plants.{Plant}
use Rattle.plant_def.specs.Files.{got, read_plant}
use Rattle.plant_def.specs.Within.{Within}
use Rattle.plant_def.proofs.Limited.{within}
use Rattle.plant_def.proofs.Accepted.{accepted}
use Rattle.flow_def.specs.Flows.{amount_at, allowed_over, Cheapest}
use Rattle.flow_def.specs.Overfull.{Refusal19}
use Rattle.flow_def.specs.Least.{LeastInFractions, distance}
use Rattle.flow_def.proofs.Distance.{distance_same, distance_part}
use Rattle.flow_def.proofs.AsRead.{as_read}
use Rattle.flow_def.proofs.Near.{near_fractions, one_fraction}
use Rattle.sheet_def.specs.declared.Sheet.{Sheet}
use Rattle.sheet_def.specs.Sheets.{SheetParts}
use Rattle.sheet_def.specs.Kept.{some_sheet}
use Rattle.sheet_def.specs.Sentences.{number_on, adjusted_weights, call_fault, Tells, Answers}
use Rattle.sheet_def.specs.Counters.{top_sheet, counter_of}
use Rattle.sheet_def.specs.Says.{SheetSays}
use Rattle.sheet_def.specs.DeskTool.{Beside, DeskTool}

-- Of a sheet that tells of a plant what a sheet has to.
beside : (p : Plant) → Within p → (s : SheetParts) → Tells p s → (d : ℕ) (ys : List ℤ) → LeastInFractions p d ys → Beside p s d ys
beside p w s t d ys m = record {
  all = all;
  each = λ k q. omega (arith, all, mul-le-mul_left 4 (distance_part d p.streams ys (number_on s) (length p.streams) k q.0 q.1));
  as_read = λ k q e. as_read p w d ys m k q.0 q.1 ((t.as_read k q).0 e) ∙ ap (λ (x : ℤ). pos d *ℤ x) (sym (t.reading k q e));
}
  where
    xs : List ℤ
    xs = t.some.0

    c : Cheapest p xs
    c = t.some.1

    shown : distance d p.streams (number_on s) ys ≡ distance d p.streams (amount_at xs) ys
    shown = distance_same d p.streams ys (number_on s) (amount_at xs) (length p.streams) (λ k l q. t.metered xs c k (l, q))

    all : 4 * distance d p.streams (number_on s) ys ≤ d * d * adjusted_weights p s
    all = rw shown (near_fractions p w xs ys d (adjusted_weights p s) c.balance m (t.near xs c d ys m.some m.allowed))

-- A reading of bytes has one result.
pub same_parts : (s t : SheetParts) → some_sheet s ≡ some_sheet t → s ≡ t
same_parts s t e = cc

module _ (nineteen : Refusal19)
    (answers : (file : List ℕ) (office : ℕ) (lasts o o' : List ℕ) (r : Sheet) → counter_of office lasts ≤ top_sheet → SheetSays file office lasts o o' r → Answers file office lasts o o' r) where
  -- A plant with a flow in fractions has a cheapest whole-number flow.
  some_cheapest : (file : List ℕ) (p : Plant) (d : ℕ) (ys : List ℤ) → read_plant file ≡ got p → LeastInFractions p d ys → (xs : List ℤ) × Cheapest p xs
  some_cheapest file p d ys e m =
      ⊎_elim (λ x. x) (λ f. clash (allowed_over d p ys) m.allowed (nineteen.none file p f.0 e f.1 d ys m.some)) (nineteen.either file p e)

  -- A drawn sheet beside the flow in fractions of least cost.
  pub desk_tool : DeskTool
  desk_tool = record {
    near = λ file office lasts o o' r top s n p d ys e m sheet read.
        let a = answers file office lasts o o' r top s in
        let x = some_cheapest file p d ys e m in
        let f = a.full p x.0 (taken file office lasts o o' r a n) e x.1.balance in
        beside p (within p (accepted file p e).0) sheet (subst (Tells p) (same_parts f.sheet sheet (sym f.read ∙ read)) f.tells) d ys m;
    one = λ file p d e ys zs g m o k q. one_fraction p (within p (accepted file p g).0) d e ys zs m o k q.0 q.1;
  }
    where
      taken : (file : List ℕ) (office : ℕ) (lasts o o' : List ℕ) (r : Sheet) → Answers file office lasts o o' r → r.number ≡ 0 → call_fault office lasts o ≡ 0
      taken file office lasts o o' r a n = by_cases (eqb (call_fault office lasts o) 0) (λ t. eqb-true (call_fault office lasts o) 0 t)
          (λ t. sym (ap (λ (y : Sheet). y.number) (a.unfit (eqb-false (call_fault office lasts o) 0 t)).0) ∙ n)

-- What a plant file and an outcome give, by what was found, and a call without fault.
use mathlib.Core.Path.{◌≡◌, subst}
use mathlib.Core.Bool.{Bool, true, false}
use mathlib.Core.List.{List}
use Prim.Native.Nat.{ℕ, ◌≤◌, ◌<◌}
use lib.ListN.{length}
use lib.Dec.{eqb, ltb, leb}
use borrow.Author.Tests.{eq-eqb, ne_eqb, ltb-false, leb-false, eqb-false}
use Rattle.num_bytes.specs.Choice.{refuse_if, first_of}
use Rattle.num_bytes.proofs.Tests.{refuse_none, first_none_left, first_none_right}
use Rattle.num_bytes.specs.Inner.{PickT}
use Rattle.plant_def.specs.Results.{Read}
use Rattle.plant_def.specs.Plants.{Plant}
use Rattle.plant_def.specs.Files.{Got, read_plant}
use Rattle.plant_def.specs.Says.{plant_of, read_of}
use Rattle.plant_def.proofs.Found.{found, plant_same}
use Rattle.flow_def.specs.Overfull.{Overfull}
use Rattle.sheet_def.specs.declared.Sheet.{Sheet}
use Rattle.sheet_def.specs.declared.Balance.{Balance}
use Rattle.sheet_def.specs.declared.Outcome.{Outcome}
use Rattle.sheet_def.specs.Balances.{BalanceSays, OutcomeSays}
use Rattle.sheet_def.specs.Totals.{least_slice}
use Rattle.sheet_def.specs.Says.{SheetWith, SheetSays}
use Rattle.sheet_def.specs.Counters.{offices, top_sheet, counter_of}
use Rattle.sheet_def.specs.Sentences.{call_fault, Refused}

-- What is said of the plant that was handed over is said of the plant of the file.
module _ (file : List ℕ) (y : Read) (e : y ≡ read_of (read_plant file)) (n : y.number ≡ 0) where
  -- Its balance,
  pub plant_balance : (b : Balance) → BalanceSays (plant_of y.plant) b → BalanceSays (found file y e n).0 b
  plant_balance b t = subst (λ (x : Plant). BalanceSays x b) (plant_same file y e n) t

  -- or its overfull set.
  pub plant_overfull : (ms : List Bool) → Overfull (plant_of y.plant) ms → Overfull (found file y e n).0 ms
  plant_overfull ms t = subst (λ (x : Plant). Overfull x ms) (plant_same file y e n) t

-- What is found of a plant, by whether a flow was.
module _ (p : Plant) (r : Outcome) (h : OutcomeSays p r) where
  -- A flow was found: the balance.
  pub outcome_balance : r.found ≡ true → BalanceSays p r.balance
  outcome_balance t = subst (λ (b : Bool). PickT b (BalanceSays p r.balance) (Overfull p r.marked)) t h

  -- None was: the overfull set.
  pub outcome_overfull : r.found ≡ false → Overfull p r.marked
  outcome_overfull t = subst (λ (b : Bool). PickT b (BalanceSays p r.balance) (Overfull p r.marked)) t h

-- A call without fault: the slice is long enough, the office has a counter, and a sheet number is left of it.
module _ (office : ℕ) (lasts : List ℕ) (o : List ℕ) (e : call_fault office lasts o ≡ 0) where
  -- The slice is long enough,
  pub long_enough : least_slice ≤ length o
  long_enough = ltb-false (length o) least_slice (refuse_none _ 0 (first_none_left (refuse_if (ltb (length o) least_slice) 1) _ e))

  taken : first_of (refuse_if (leb offices office) 22) (refuse_if (eqb (counter_of office lasts) top_sheet) 2) ≡ 0
  taken = first_none_right (refuse_if (ltb (length o) least_slice) 1) _ e

  -- the office has a counter,
  pub has_counter : office < offices
  has_counter = leb-false offices office (refuse_none _ 21 (first_none_left (refuse_if (leb offices office) 22) _ taken))

  -- and it has a number left.
  pub one_left : counter_of office lasts ≡ top_sheet → ⊥
  one_left = eqb-false (counter_of office lasts) top_sheet (refuse_none _ 1 (first_none_right (refuse_if (leb offices office) 22) _ taken))

-- What a call ensures, by its fault and by the file.
module _ (file : List ℕ) (office : ℕ) (lasts o o' : List ℕ) (r : Sheet) (s : SheetSays file office lasts o o' r) where
  call_by : (b : Bool) → eqb (call_fault office lasts o) 0 ≡ b → PickT b (SheetWith (read_plant file) office lasts o o' r) (Refused (call_fault office lasts o) lasts o o' r)
  call_by b e = subst (λ (b : Bool). PickT b (SheetWith (read_plant file) office lasts o o' r) (Refused (call_fault office lasts o) lasts o o' r)) e s

  -- A call with a fault is refused.
  pub call_faulty : (call_fault office lasts o ≡ 0 → ⊥) → Refused (call_fault office lasts o) lasts o o' r
  call_faulty n = call_by false (ne_eqb (call_fault office lasts o) 0 n)

  -- A call without fault goes by the file,
  pub call_taken : call_fault office lasts o ≡ 0 → SheetWith (read_plant file) office lasts o o' r
  call_taken z = call_by true (eq-eqb (call_fault office lasts o) 0 z)

  -- whatever was read of it.
  pub call_read : (g : Got) → call_fault office lasts o ≡ 0 → read_plant file ≡ g → SheetWith g office lasts o o' r
  call_read g z e = subst (λ (g : Got). SheetWith g office lasts o o' r) e (call_taken z)

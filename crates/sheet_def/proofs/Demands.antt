-- The demands are met: the solver is right of every plant.
use mathlib.Core.Path.{◌≡◌}
use mathlib.Core.List.{List}
use lib.IntN.{ℤ}
use Prim.Native.Nat.{ℕ, ◌≤◌}
use lib.ListN.{length}
use Rattle.plant_def.specs.declared.Plant as Arrays
use Rattle.plant_def.specs.Plants.{Plant}
use Rattle.plant_def.specs.Files.{got, read_plant}
use Rattle.plant_def.specs.Within.{Accepted}
use Rattle.plant_def.specs.Says.{plant_of}
use Rattle.plant_def.proofs.Limited.{within}
use Rattle.plant_def.proofs.Accepted.{accepted}
use Rattle.plant_def.proofs.Arrayed.{within_of}
use Rattle.flow_def.specs.Flows.{Cheapest}
use Rattle.solve_def.specs.declared.Solved.{Solved}
use Rattle.solve_def.specs.Model.{no_hint, settled}
use Rattle.solve_def.specs.Whole.{solved_from}
use Rattle.solve_def.specs.Promise.{Right}
use Rattle.solve_def.proofs.Theorem.{from_none, solved_right}
use Rattle.solve_def.proofs.Demand.{demand_3, refusal_19}
use Rattle.sheet_def.specs.declared.Sheet.{Sheet}
use Rattle.sheet_def.specs.Counters.{top_sheet, counter_of}
use Rattle.sheet_def.specs.Says.{SheetSays}
use Rattle.sheet_def.specs.Demands.{Demands}
use Rattle.sheet_def.specs.Sentences.{Tells}
use Rattle.sheet_def.specs.Balances.{balance_of}
use Rattle.sheet_def.specs.Drawings.{parts_of}
use Rattle.sheet_def.proofs.Telling.{Sized, told, tells}
use Rattle.sheet_def.proofs.Answering.{ReadsBack, read_kept, sized_here, demands_met}

-- What its definitions find, which need no hint.
solved : (p : Arrays.Plant) → Accepted p → (s : Solved) × Right p s
solved p a = (
  solved_from p.units (plant_of p).streams (settled (plant_of p).streams no_hint),
  solved_right p a _ (from_none (plant_of p) (within_of p a)),
)

-- All demands are met.
pub demands : Demands
demands = demands_met demand_3 refusal_19 solved

-- The numbers of a cheapest flow that are shown are small.
pub all_sized : (file : List ℕ) (p : Plant) → read_plant file ≡ got p → (xs : List ℤ) → Cheapest p xs → Sized p xs
all_sized = sized_here demand_3 refusal_19 solved

-- A sheet that a call drew reads back as its parts.
pub drawn_kept : (file : List ℕ) (office : ℕ) (lasts o o' : List ℕ) (r : Sheet) → counter_of office lasts ≤ top_sheet → SheetSays file office lasts o o' r → r.number ≡ 0
    → ReadsBack file office lasts o' r
drawn_kept file office lasts o o' r top = read_kept file office lasts o o' r top (all_sized file)

-- The sheet of a cheapest flow, under a total of any kind, tells of the plant what it has to.
pub parts_tell : (file : List ℕ) (p : Plant) → read_plant file ≡ got p → (xs : List ℤ) → Cheapest p xs → (kind office n : ℕ)
    → Tells p (parts_of kind office (length p.streams) n (balance_of p xs))
parts_tell file p e xs c kind office n =
    let w = within p (accepted file p e).0 in
    tells p w (demand_3 file p xs e c.balance) xs c (parts_of kind office (length p.streams) n (balance_of p xs)) (told p w xs c kind office n)

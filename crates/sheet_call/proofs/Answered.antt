-- The sheet call's promise, by what was found.
use mathlib.Core.Path.{◌≡◌, refl, sym, ap, ◌∙◌, subst}
use mathlib.Core.Bool.{Bool, true, false}
use mathlib.Core.Logic.{inl, inr}
use mathlib.Core.List.{List}
use Prim.Native.Nat.{ℕ}
use lib.Dec.{eqb}
use lib.ListN.{length}
use borrow.Author.Tests.{eq-eqb, ne_eqb}
use Rattle.num_bytes.specs.Bytes.{over}
use Rattle.num_bytes.specs.Inner.{PickT}
use Rattle.plant_def.specs.Results.{Read}
use Rattle.plant_def.specs.Files.{Got, got, read_plant}
use Rattle.plant_def.specs.Says.{plant_of, read_of}
use Rattle.plant_def.proofs.Found.{read_bad, found, plant_count}
use Rattle.flow_def.specs.Overfull.{unmarked, Overfull}
use Rattle.sheet_def.specs.declared.Sheet.{Sheet}
use Rattle.sheet_def.specs.declared.Balance.{Balance}
use Rattle.sheet_def.specs.declared.Outcome.{Outcome}
use Rattle.sheet_def.specs.Balances.{BalanceSays, OutcomeSays}
use Rattle.sheet_def.specs.Counters.{next_of, raised}
use Rattle.sheet_def.specs.Drawings.{sheet_bytes, sheet_of}
use Rattle.sheet_def.specs.Says.{SheetWith, SheetSays}
use Rattle.sheet_def.specs.Sentences.{call_fault, Refused, RefusedWith}
use Rattle.sheet_def.proofs.Promise.{plant_balance, plant_overfull}
use Rattle.sheet_write.specs.Draws.{Filled, DrawnOf}

module _ (file : List ℕ) (office : ℕ) (lasts : List ℕ) (o : List ℕ) where
  -- By the test of the call itself.
  by_test : (b : Bool) → eqb (call_fault office lasts o) 0 ≡ b → (o' : List ℕ) (r : Sheet)
      → PickT b (SheetWith (read_plant file) office lasts o o' r) (Refused (call_fault office lasts o) lasts o o' r) → SheetSays file office lasts o o' r
  by_test b e o' r w = subst (λ (b : Bool). PickT b (SheetWith (read_plant file) office lasts o o' r) (Refused (call_fault office lasts o) lasts o o' r)) (sym e) w

  -- A call with a fault.
  pub call_refused : (f : ℕ) (r : Sheet) → f ≡ call_fault office lasts o → (f ≡ 0 → ⊥) → r ≡ record { number = f; written = 0; lasts = lasts; marked = unmarked } → SheetSays file office lasts o o r
  call_refused f r e n q =
      by_test false (ne_eqb (call_fault office lasts o) 0 (λ d. n (e ∙ d))) o r (q ∙ (λ i. record { number = e i; written = 0; lasts = lasts; marked = unmarked }), refl)

  module _ (f : ℕ) (e : f ≡ call_fault office lasts o) (z : f ≡ 0) where
    by_file : (g : Got) → read_plant file ≡ g → (o' : List ℕ) (r : Sheet) → SheetWith g office lasts o o' r → SheetSays file office lasts o o' r
    by_file g q o' r w =
        by_test true (eq-eqb (call_fault office lasts o) 0 (sym e ∙ z)) o' r (subst (λ (g : Got). SheetWith g office lasts o o' r) (sym q) w)

    module _ (y : Read) (q : y ≡ read_of (read_plant file)) where
      -- A file that is refused.
      pub file_refused : (r : Sheet) → (y.number ≡ 0 → ⊥) → r ≡ record { number = y.number; written = 0; lasts = lasts; marked = unmarked } → SheetSays file office lasts o o r
      file_refused r n w = by_file _ (read_bad (read_plant file) y q n) o r (w, refl)

      -- What is drawn of the plant's outcome.
      module _ (n : y.number ≡ 0) (o' : List ℕ) (r : Sheet) where
        sheet_drawn : (b : Balance) → BalanceSays (plant_of y.plant) b → Filled y.plant.count b office lasts o o' r → SheetSays file office lasts o o' r
        sheet_drawn b t d =
            let s = plant_balance file y q n b t in
            let sheet : sheet_bytes office y.plant.count (next_of office lasts) b ≡ sheet_of office (found file y q n).0 s.0 (next_of office lasts) = λ i. sheet_bytes office
            (plant_count file y q n i) (next_of office lasts) (s.2 i) in
            by_file (got (found file y q n).0) (found file y q n).1 o' r (inl (
              s.0,
              s.1,
              d.0 ∙ (λ i. record { number = 0; written = length (sheet i); lasts = raised office lasts; marked = unmarked }),
              d.1 ∙ ap (λ (l : List ℕ). over l o) sheet,
            ))

        sheet_overfilled : (ms : List Bool) → Overfull (plant_of y.plant) ms → RefusedWith ms 19 lasts o o' r → SheetSays file office lasts o o' r
        sheet_overfilled ms t w = by_file (got (found file y q n).0) (found file y q n).1 o' r (inr (ms, plant_overfull file y q n ms t, w))

        -- A plant whose outcome is drawn.
        pub outcome_drawn : (u : Outcome) → OutcomeSays (plant_of y.plant) u → DrawnOf y.plant.count u office lasts o o' r → SheetSays file office lasts o o' r
        outcome_drawn u = go u.found u.balance u.marked
          where
            go : (b : Bool) (l : Balance) (ms : List Bool) → PickT b (BalanceSays (plant_of y.plant) l) (Overfull (plant_of y.plant) ms)
                → PickT b (Filled y.plant.count l office lasts o o' r) (RefusedWith ms 19 lasts o o' r) → SheetSays file office lasts o o' r
            go true l ms t d = sheet_drawn l t d
            go false l ms t d = sheet_overfilled ms t d

-- The sheet of a plant's cheapest flow is within its limits, and so it reads back as its parts.
use mathlib.Core.Path.{◌≡◌, refl, sym, subst}
use mathlib.Core.Bool.{true}
use mathlib.Core.List.{List, [], ◌∷◌}
use lib.IntN.{ℤ, nat_abs}
use Prim.Native.Nat.{ℕ, suc, ◌+◌, ◌*◌, ◌^◌, ◌<◌, ◌≤◌}
use native.Mathlib.Omega.{arith}
use lib.Dec.{eqb, leb}
use lib.ListN.{length, get_or, take}
use borrow.Author.Tests.{lt-ltb, ne_eqb, le-leb}
use Rattle.num_bytes.proofs.Tests.{by_cases, and_both}
use Rattle.num_bytes.proofs.Complement.{small_held}
use Rattle.plant_def.specs.Plants.{Plant}
use Rattle.plant_def.specs.Within.{Within}
use Rattle.plant_def.specs.Limits.{max_units}
use Rattle.flow_def.specs.declared.Class.{Class}
use Rattle.flow_def.specs.declared.Class.TheVariants.{Adjusted, AsRead, Given, Withheld}
use Rattle.flow_def.specs.Flows.{cost, Cheapest}
use Rattle.flow_def.specs.Classes.{class_of, number_of, degrees}
use Rattle.flow_def.specs.Test.{critical_at, verdict_at}
use Rattle.flow_def.specs.Shown.{adjusted}
use Rattle.flow_def.proofs.Nets.{inside}
use Rattle.flow_def.proofs.Given.{number_is}
use Rattle.flow_def.proofs.Degrees.{degrees_most}
use Rattle.sheet_def.specs.declared.Entry.{Entry}
use Rattle.sheet_def.specs.Balances.{entry_of, balance_of}
use Rattle.sheet_def.specs.Sheets.{SheetParts, parts_bytes}
use Rattle.sheet_def.specs.Drawings.{parts_of}
use Rattle.sheet_def.specs.Counters.{offices}
use Rattle.sheet_def.specs.Kept.{some_sheet, read_sheet, verdict_fits, fields_fit, fits, all_fit, kind_fits, WithinSheet}
use Rattle.flow_def.proofs.Ranges.{balanced_of}
use Rattle.sheet_def.proofs.Capped.{capped_most}
use Rattle.sheet_def.specs.Calls.{no_entry}
use Rattle.sheet_def.proofs.Telling.{Sized, es_long, entry_at, cost_is, degrees_is, verdict_is}
use Rattle.sheet_def.proofs.There.{there}

-- Entries fit where each does.
all_fit_lem : (es : List Entry) → ((k : ℕ) → k < length es → fits (get_or es k no_entry).class (get_or es k no_entry).flow ≡ true) → all_fit es ≡ true
all_fit_lem [] h = refl
all_fit_lem (e ∷ es) h = and_both (fits e.class e.flow) (all_fit es) (h 0 (omega arith)) (all_fit_lem es (λ k l. h (suc k) (omega arith)))

-- A number that is small where it is shown fits.
entry_fits : (c : Class) (x : ℤ) → ((c ≡ Withheld → ⊥) → 2 * nat_abs x < 256 ^ 8) → fits (entry_of c x).class (entry_of c x).flow ≡ true
entry_fits Adjusted x h = small_held 8 x (h (λ e. let z : ◌≡◌ {A = ℕ} 0 1 = cc in omega arith))
entry_fits AsRead x h = small_held 8 x (h (λ e. let z : ◌≡◌ {A = ℕ} 0 1 = cc in omega arith))
entry_fits Given x h = small_held 8 x (h (λ e. let z : ◌≡◌ {A = ℕ} 0 1 = cc in omega arith))
entry_fits Withheld x h = refl

-- A verdict fits the degrees that it was given at.
verdict_fits_lem : (d c q : ℕ) → verdict_fits d (verdict_at d c q) ≡ true
verdict_fits_lem d c q =
    by_cases (eqb d 0) (λ t. rw t refl)
    (λ t. by_cases (leb c (critical_at d)) (λ u. rw (t, u) refl)
    (λ u. by_cases (leb (4 * c) (4 * critical_at d + q)) (λ v. rw (t, u, v) refl) (λ v. rw (t, u, v) refl)))

module _ (p : Plant) (w : Within p) (xs : List ℤ) (c : Cheapest p xs) (sized : Sized p xs) where
  abbrev listed : List Entry
  listed = take (length p.streams) (balance_of p xs).streams

  each : (k : ℕ) → k < length listed → fits (get_or listed k no_entry).class (get_or listed k no_entry).flow ≡ true
  each k h =
      let l : k < length p.streams = omega (arith, es_long p w xs c) in
      subst (λ (e : Entry). fits e.class e.flow ≡ true) (sym (entry_at p w xs c no_entry k l))
      (entry_fits (class_of p k) (number_of p xs k) (λ n. rw (number_is p w xs (balanced_of 1 p xs c.balance) k l n) (omega (arith, sized k l n))))

  -- Under a total of either kind.
  module _ (kind office last : ℕ) (fit : kind_fits kind office ≡ true) (known : office < offices) (small : suc last < 256 ^ 4) where
    abbrev parts : SheetParts
    parts = parts_of kind office (length p.streams) (suc last) (balance_of p xs)

    total_fits : fields_fit parts.total ≡ true
    total_fits =
        let few : degrees p ≤ max_units = degrees_most p w.few_units (inside p w) in
        rw (lt-ltb office offices known, degrees_is p w xs c, verdict_is p w xs c, ne_eqb (suc last) 0 (omega arith), le-leb (degrees p) max_units few)
        (verdict_fits_lem (degrees p) (cost p.streams xs) (adjusted p))

    -- The parts of a cheapest flow's sheet are within the limits of sheets,
    pub within_sheet : WithinSheet parts
    within_sheet =
        let f = w.few_streams in
        record {
          recorded = record {
            few = omega (arith, es_long p w xs c);
            flows = all_fit_lem listed each;
            kind = fit;
            number = small;
            cost = omega (arith, cost_is p w xs c, capped_most (cost p.streams xs));
          };
          allowed = total_fits;
        }

    -- so its bytes read back as its parts.
    pub read_back : read_sheet (parts_bytes parts) ≡ some_sheet parts
    read_back = there parts within_sheet

-- The table of plants, proved by one computed test: potentials certify each flow.
use mathlib.Core.Path.{◌≡◌, refl, ap, ◌∙◌}
use mathlib.Core.Bool.{Bool, true, false, ◌&&◌, false≢true}
use mathlib.Core.Logic.{◌⊎◌, ⊎_elim}
use mathlib.Core.List.{List, [], ◌∷◌}
use lib.IntN.{ℤ, pos, negsuc}
use lib.Signed.{lt_z}
use Prim.Native.Nat.{ℕ, zero, suc, ◌-◌, ◌<◌}
use native.Mathlib.Omega.{arith}
use lib.Dec.{eqb}
use lib.ListN.{length}
use borrow.Author.Tests.{eqb-true}
use Rattle.num_bytes.proofs.Tests.{and_left, and_right}
use Rattle.num_bytes.specs.Bytes.{over}
use Rattle.num_bytes.proofs.Filled.{blank_at}
use Rattle.plant_def.specs.declared.Stream.{Stream}
use Rattle.plant_def.specs.Limits.{places}
use Rattle.plant_def.specs.Plants.{Plant, limited}
use Rattle.plant_def.specs.Files.{Got, bad, got, read_plant}
use Rattle.plant_def.proofs.Limited.{within}
use Rattle.plant_def.proofs.Accepted.{accepted}
use Rattle.flow_def.specs.Flows.{stream_at, Cheapest}
use Rattle.flow_def.specs.Overfull.{marks, lows_in, highs_out, Overfull}
use Rattle.flow_def.specs.Certificate.{certified}
use Rattle.flow_def.proofs.Certified.{certified_cheapest}
use Rattle.sheet_def.specs.declared.Sheet.{Sheet}
use Rattle.sheet_def.specs.Sentences.{call_fault, Overfilled}
use Rattle.sheet_def.specs.Counters.{offices_from}
use Rattle.sheet_def.specs.Balances.{balance_of}
use Rattle.sheet_def.specs.Drawings.{sheet_of}
use Rattle.sheet_def.specs.Says.{Drawn, SheetSays}
use Rattle.sheet_def.specs.Table.{Example, Shows, AllShow, Refuses, examples, full_file, full_unit}
use Rattle.sheet_def.proofs.Promise.{call_read}
use Rattle.sheet_def.proofs.Unique.{never_both, one_sheet}

-- Two lists of bytes are one.
abbrev same_bytes : List ℕ → List ℕ → Bool
same_bytes [] [] = true
same_bytes [] (y ∷ ys) = false
same_bytes (x ∷ xs) [] = false
same_bytes (x ∷ xs) (y ∷ ys) = eqb x y && same_bytes xs ys

same_bytes_lem : (xs ys : List ℕ) → same_bytes xs ys ≡ true → xs ≡ ys
same_bytes_lem [] [] e = refl
same_bytes_lem [] (y ∷ ys) e = absurd (false≢true e)
same_bytes_lem (x ∷ xs) [] e = absurd (false≢true e)
same_bytes_lem (x ∷ xs) (y ∷ ys) e =
    let h = eqb-true x y (and_left (eqb x y) (same_bytes xs ys) e) in
    let t = same_bytes_lem xs ys (and_right (eqb x y) (same_bytes xs ys) e) in
    λ i. h i ∷ t i

-- A call draws the sheet of some cheapest flow, and any two have one sheet.
calls_leave : (e : Example) (p : Plant) → read_plant e.file ≡ got p → Cheapest p e.flow → sheet_of 0 p e.flow 1 ≡ e.sheet
    → (o o' : List ℕ) (r : Sheet) → call_fault 0 (offices_from 0) o ≡ 0 → SheetSays e.file 0 (offices_from 0) o o' r → o' ≡ over e.sheet o
calls_leave e p q c b o o' r z s =
    let w = within p (accepted e.file p q).0 in
    let given : Drawn p 0 (offices_from 0) o o' r ⊎ Overfilled p (offices_from 0) o o' r = call_read e.file 0 (offices_from 0) o o' r s (got p) z q in
    ⊎_elim (λ d. d.3 ∙ ap (λ (l : List ℕ). over l o) (one_sheet p w d.0 e.flow d.1 c 0 1 ∙ b))
    (λ m. never_both p w e.flow c m.0 m.1) given

-- The test of one example, with potentials for the places.
abbrev pub shows : Example → List ℤ → Got → Bool
shows e potentials (bad f) = false
shows e potentials (got p) = certified p e.flow potentials && same_bytes (sheet_of 0 p e.flow 1) e.sheet

-- Where the computed test passes, the example shows what it says.
pub shows_right : (e : Example) (potentials : List ℤ) (g : Got) → read_plant e.file ≡ g → shows e potentials g ≡ true → Shows e
shows_right e potentials (bad f) r t = absurd (false≢true t)
shows_right e potentials (got p) r t =
    let c = certified p e.flow potentials in
    let s = same_bytes (sheet_of 0 p e.flow 1) e.sheet in
    let cheapest = certified_cheapest p e.flow potentials (and_left c s t) in
    (p, r, cheapest, calls_leave e p r cheapest (same_bytes_lem (sheet_of 0 p e.flow 1) e.sheet (and_right c s t)))

-- The test of the whole table.
abbrev all_show : List Example → List (List ℤ) → Bool
all_show [] ps = true
all_show (e ∷ es) [] = false
all_show (e ∷ es) (p ∷ ps) = shows e p (read_plant e.file) && all_show es ps

all_right : (es : List Example) (ps : List (List ℤ)) → all_show es ps ≡ true → AllShow es
all_right [] ps t = tt
all_right (e ∷ es) [] t = absurd (false≢true t)
all_right (e ∷ es) (p ∷ ps) t =
    let a = shows e p (read_plant e.file) in
    (shows_right e p (read_plant e.file) refl (and_left a (all_show es ps) t), all_right es ps (and_right a (all_show es ps) t))

-- The potentials of the places 0, 1 and so on, for each plant of the table.
potentials : List (List ℤ)
potentials =
    (pos 0 ∷ negsuc 19 ∷ [])
    ∷ (pos 0 ∷ negsuc 9 ∷ [])
    ∷ (pos 0 ∷ pos 30 ∷ [])
    ∷ (pos 0 ∷ pos 60 ∷ [])
    ∷ (pos 0 ∷ pos 0 ∷ [])
    ∷ (pos 0 ∷ negsuc 139 ∷ [])
    ∷ (pos 0 ∷ negsuc 121 ∷ [])
    ∷ (pos 0 ∷ negsuc 123 ∷ [])
    ∷ (pos 0 ∷ pos 1085 ∷ [])
    ∷ (pos 0 ∷ pos 1099 ∷ [])
    ∷ (pos 0 ∷ negsuc 19 ∷ negsuc 19 ∷ [])
    ∷ []
    ∷ (pos 0 ∷ pos 0 ∷ [])
    ∷ (pos 0 ∷ pos 40 ∷ [])
    ∷ (pos 0 ∷ pos 0 ∷ [])
    ∷ []

-- All examples of the table show what they say.
pub table : AllShow examples
unfolding potentials balance_of
table = all_right examples potentials refl

-- The plant without a flow in range.
full_plant : Plant
full_plant =
    record {
      units = 1;
      streams =
          record { from = 0; to = 1; metered = true; weight = 10; reading = pos 15; ranged = true; low = pos 10; high = pos 20 }
          ∷ record { from = 1; to = 0; metered = true; weight = 10; reading = pos 15; ranged = true; low = pos 0; high = pos 5 }
          ∷ [];
    }

-- Each stream has a range.
abbrev pub all_limited : List Stream → Bool
all_limited [] = true
all_limited (s ∷ ss) = limited s && all_limited ss

limited_at : (ss : List Stream) → all_limited ss ≡ true → (k : ℕ) → k < length ss → limited (stream_at ss k) ≡ true
limited_at [] e k l = absurd (omega arith)
limited_at (s ∷ ss) e zero l = and_left (limited s) (all_limited ss) e
limited_at (s ∷ ss) e (suc k) l = limited_at ss (and_right (limited s) (all_limited ss) e) k (omega arith)

-- One unit that must take in more than it can let out.
pub unit_full : (ss : List Stream) → all_limited ss ≡ true → lt_z (highs_out (marks full_unit) ss) (lows_in (marks full_unit) ss) ≡ true
    → Overfull (record { units = 1; streams = ss }) full_unit
unit_full ss e m = record { long = refl; placed = past; bounded = λ k l t. limited_at ss e k l; more = m }
  where
    past : (u : ℕ) → 1 < u → marks full_unit u ≡ false
    past zero l = absurd (omega arith)
    past (suc zero) l = absurd (omega arith)
    past (suc (suc u)) l = blank_at false (places - 2) u

-- A call that drew a sheet would have a flow in range.
pub refuses_right : (file : List ℕ) (p : Plant) (ms : List Bool) → read_plant file ≡ got p → Overfull p ms → Refuses file ms
refuses_right file p ms e m = (p, e, m, calls)
  where
    calls : (o o' : List ℕ) (r : Sheet) → call_fault 0 (offices_from 0) o ≡ 0 → SheetSays file 0 (offices_from 0) o o' r → r.number ≡ 19
    calls o o' r z s =
        let given : Drawn p 0 (offices_from 0) o o' r ⊎ Overfilled p (offices_from 0) o o' r = call_read file 0 (offices_from 0) o o' r s (got p) z e in
        ⊎_elim (λ d. never_both p (within p (accepted file p e).0) d.0 d.1 ms m) (λ m. ap (λ (q : Sheet). q.number) m.2.0) given

-- The plant of the table that has no flow in range is refused with 19: its unit is overfull.
pub refuses : Refuses full_file full_unit
unfolding full_plant
refuses = refuses_right full_file full_plant full_unit refl (unit_full full_plant.streams refl refl)

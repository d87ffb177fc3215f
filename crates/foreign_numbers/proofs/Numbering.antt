-- The call's answer, by what was read; and what is handed over in a slice.
use mathlib.Core.Path.{◌≡◌, refl, ap}
use mathlib.Core.List.{List}
use mathlib.Core.Logic.{⊎_elim}
use lib.IntN.{ℤ}
use Prim.Native.Nat.{ℕ, ◌≤◌, ◌<◌}
use native.Mathlib.Omega.{arith}
use lib.ListN.{length}
use Rattle.num_bytes.specs.Bytes.{over}
use Rattle.plant_def.specs.Results.{Read}
use Rattle.plant_def.specs.Limits.{places}
use Rattle.plant_def.specs.Files.{Got, bad, got, read_plant}
use Rattle.plant_def.specs.Says.{plant_of, read_of}
use Rattle.plant_def.proofs.Found.{says_bad, says_got}
use Rattle.plant_def.proofs.Accepted.{read_within}
use Rattle.sheet_def.proofs.Demands.{demands}
use Rattle.foreign_def.specs.Numbers.{PlaceNumbers, no_numbers, numbers_in, NumbersOf, NumbersWith, NumbersSay}
use Rattle.foreign_numbers.specs.Lent.{NumbersFound}

module _ (file : List ℕ) (y : Read) (e : y ≡ read_of (read_plant file)) (r : PlaceNumbers) where
  -- A file that is not read.
  pub says_unread : (y.number ≡ 0 → ⊥) → r ≡ no_numbers y.number → NumbersSay file r
  says_unread = says_bad (λ g. NumbersWith g r) file y e

  -- A file that is read: the answer of its plant.
  pub says_numbers : y.number ≡ 0 → NumbersOf (plant_of y.plant) r → NumbersSay file r
  says_numbers = says_got (λ g. NumbersWith g r) file y e

-- There are no more numbers than there may be.
pub numbers_few : (file : List ℕ) (r : PlaceNumbers) → NumbersSay file r → r.count ≤ places
numbers_few file r = go (read_plant file) refl
  where
    none : (f : ℕ) → r ≡ no_numbers f → r.count ≤ places
    none f q = omega (arith, ap (λ (x : PlaceNumbers). x.count) q)

    go : (g : Got) → read_plant file ≡ g → NumbersWith g r → r.count ≤ places
    go (bad f) e n = none f n
    go (got p) e n = ⊎_elim
        (λ c. omega (arith, (n.some c.0 c.1.balance).count, (read_within file p e).few_units))
        (λ o. none 19 (n.none (λ ys. demands.nineteen.none file p o.0 e o.1 1 ys (omega arith))))
        (demands.nineteen.either file p e)

-- In a slice.
module _ (file : List ℕ) (o : List ℤ) where
  -- A slice that is too short: 1, and the slice as it was.
  pub lends_nothing : length o < places → NumbersFound file o (1, 0, o)
  lends_nothing h = record { made = no_numbers 1; enough = λ l. absurd (omega arith); short = λ l. refl; handed = refl }

  -- A slice that is long enough gets the numbers at its front.
  pub lends_numbers : places ≤ length o → (r : PlaceNumbers) → NumbersSay file r → (o' : List ℤ) → o' ≡ over (numbers_in r) o
      → NumbersFound file o (r.number, r.count, o')
  lends_numbers h r n o' e = record { made = r; enough = λ l. n; short = λ l. absurd (l h); handed = λ i. (r.number, r.count, e i) }

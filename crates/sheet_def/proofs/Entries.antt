-- The entries of a balance.
use mathlib.Core.Path.{◌≡◌, refl, ap}
use mathlib.Core.List.{List}
use lib.IntN.{ℤ}
use Prim.Native.Nat.{ℕ}
use native.Mathlib.Omega.{arith}
use lib.ListN.{length}
use Rattle.plant_def.specs.Limits.{max_streams}
use Rattle.plant_def.specs.Plants.{Plant}
use Rattle.flow_def.specs.declared.Class.{Class}
use Rattle.flow_def.specs.declared.Class.TheVariants.{Adjusted, AsRead, Given, Withheld}
use Rattle.flow_def.specs.Classes.{class_of, number_of}
use Rattle.num_bytes.proofs.Lists.{values_long}
use Rattle.sheet_def.specs.Balances.{entry_of, balance_of}

-- An entry shows the number, or no number.
pub entry_same : (c : Class) (x y : ℤ) → ((c ≡ Withheld → ⊥) → x ≡ y) → entry_of c x ≡ entry_of c y
entry_same Adjusted x y h = ap (entry_of Adjusted) (h (λ e. let z : ◌≡◌ {A = ℕ} 0 1 = cc in omega arith))
entry_same AsRead x y h = ap (entry_of AsRead) (h (λ e. let z : ◌≡◌ {A = ℕ} 0 1 = cc in omega arith))
entry_same Given x y h = ap (entry_of Given) (h (λ e. let z : ◌≡◌ {A = ℕ} 0 1 = cc in omega arith))
entry_same Withheld x y h = refl

-- A balance has as many as there may be streams.
pub balance_long : (p : Plant) (xs : List ℤ) → length (balance_of p xs).streams ≡ max_streams
unfolding balance_of
balance_long p xs = values_long (λ k. entry_of (class_of p k) (number_of p xs k)) max_streams

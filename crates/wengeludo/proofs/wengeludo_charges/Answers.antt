-- The bill is stored as it was found.
use mathlib.Core.Path.{◌≡◌, ◌∙◌}
use mathlib.Core.List.{List}
use lib.IntN.{ℤ}
use Prim.Native.Nat.{ℕ}
use mir.Syntax.{w64}
use mir.Val.{SFits}
use mir.Facts.{to_z-of_z}
use Rattle.num_lent.specs.Lending.{Lending}
use borrow.Author.Rules.{rules}
use Rattle.wengeludo.proofs.wengeludo_charges.Goals as goal
use Rattle.wengeludo.proofs.wengeludo_charges.Goals.{After-struct_told-1}

found_as : {R F Room : Type 0} {refused : ℕ → R} {Says : R → Type 0} {shows : R → F} (f g : F) → f ≡ g → Lending Room refused Says shows g
    → Lending Room refused Says shows f
found_as f g e l = record { made = l.made; enough = l.enough; short = l.short; handed = e ∙ l.handed }

billed : (number count : ℕ) (a b : ℤ) (ns : List ℕ) (cs : List ℤ) → a ≡ b → ◌≡◌ {A = ℕ × ℕ × ℤ × List ℕ × List ℤ} (number, count, a, ns, cs) (number, count, b, ns, cs)
billed number count a b ns cs e = λ i. (number, count, e i, ns, cs)

-- The bill is of 64 bits.
bill_fits : (c : After-struct_told-1) → SFits w64 c.charges_into-handed.result.bill
bill_fits c = search rules

pub returns : goal.returns
returns c = found_as _ _ (billed _ _ _ _ _ _ (to_z-of_z (bill_fits c))) c.charges_into-handed.ensures

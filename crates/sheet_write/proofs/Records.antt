-- The record of a stream by its kind: the blank, and one with a flow.
use mathlib.Core.Path.{◌≡◌, refl, sym, ◌∙◌}
use mathlib.Core.List.{[], ◌∷◌}
use lib.IntN.{ℤ}
use Prim.Native.Nat.{ℕ}
use native.Mathlib.Omega.{arith}
use Rattle.num_bytes.specs.Bytes.{put_be, raw}
use Rattle.flow_def.specs.declared.Class.{Class}
use Rattle.flow_def.specs.declared.Class.TheVariants.{Adjusted, AsRead, Given, Withheld}
use Rattle.sheet_def.specs.Sheets.{kind_of, withheld_kind, record_of}
use Rattle.sheet_def.proofs.Laying.{record_as}

-- The blank has its kind alone.
pub record_blank : (c : Class) (x : ℤ) → kind_of c ≡ withheld_kind → (kind_of c ∷ []) ≡ record_of c x
record_blank Adjusted x e = absurd (omega arith)
record_blank AsRead x e = absurd (omega arith)
record_blank Given x e = absurd (omega arith)
record_blank Withheld x e = refl

-- Any other has the flow behind its kind.
pub record_known : (c : Class) (x : ℤ) → (kind_of c ≡ withheld_kind → ⊥) → kind_of c ∷ put_be 8 (raw 8 x) ≡ record_of c x
record_known Adjusted x e = refl
record_known AsRead x e = refl
record_known Given x e = refl
record_known Withheld x e = absurd (e refl)

-- The same by a kind that was found, and a flow that is the same.
module _ (c : Class) (k : ℕ) (q : k ≡ kind_of c) where
  -- The blank,
  pub blank_as : (x : ℤ) → k ≡ withheld_kind → (k ∷ []) ≡ record_of c x
  blank_as x e = rw q (record_blank c x (sym q ∙ e))

  -- and any other.
  pub known_as : (x y : ℤ) → y ≡ x → (k ≡ withheld_kind → ⊥) → k ∷ put_be 8 (raw 8 y) ≡ record_of c x
  known_as x y f e = rw q (record_known c y (λ z. e (q ∙ z))) ∙ record_as {c = c} {d = c} refl f

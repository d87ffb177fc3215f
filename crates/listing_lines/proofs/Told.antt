-- What a call that puts text in a slice leaves no choice of.
use mathlib.Core.Path.{◌≡◌, sym, ap, ◌∙◌}
use mathlib.Core.List.{List}
use Prim.Native.Nat.{ℕ, ◌≤◌, ◌<◌}
use borrow.Author.Tests.{ltb-true, ltb-false}
use lib.Dec.{ltb}
use lib.ListN.{length}
use Rattle.num_bytes.specs.Bytes.{over}
use Rattle.num_bytes.specs.Inner.{Put}
use Rattle.num_bytes.proofs.Tests.{by_cases}

-- Text and length follow from what is listed and the slice: nothing in one that is shorter than `least`, else the text of the list.
pub one_told : {A : Type 0} (text : A → List ℕ) (Says : A → Type 0) → ((x y : A) → Says x → Says y → x ≡ y) → (least : ℕ) (o o₁ o₂ : List ℕ) (r₁ r₂ : ℕ)
    → (length o < least → (r₁ ≡ 0) × (o₁ ≡ o)) → (length o < least → (r₂ ≡ 0) × (o₂ ≡ o))
    → (least ≤ length o → (x : A) × Says x × Put (text x) o o₁ r₁) → (least ≤ length o → (x : A) × Says x × Put (text x) o o₂ r₂) → (r₁ ≡ r₂) × (o₁ ≡ o₂)
one_told text Says only least o o₁ o₂ r₁ r₂ short₁ short₂ told₁ told₂ =
    by_cases (ltb (length o) least)
    (λ t. let h = ltb-true (length o) least t in ((short₁ h).0 ∙ sym (short₂ h).0, (short₁ h).1 ∙ sym (short₂ h).1))
    (λ t. let h = ltb-false (length o) least t in
    let x = told₁ h in
    let y = told₂ h in
    put_one (ap text (only x.0 y.0 x.1 y.1)) x.2 y.2)
  where
    put_one : {x y : List ℕ} → x ≡ y → Put x o o₁ r₁ → Put y o o₂ r₂ → (r₁ ≡ r₂) × (o₁ ≡ o₂)
    put_one e p q = (p.size ∙ ap length e ∙ sym q.size, p.bytes ∙ ap (λ (l : List ℕ). over l o) e ∙ sym q.bytes)

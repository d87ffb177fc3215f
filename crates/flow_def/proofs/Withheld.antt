-- Withheld streams: round a loop of unmetered streams a flow can turn that no meter sees.
use mathlib.Core.Path.{◌≡◌, refl, sym, ◌∙◌, ap₂}
use mathlib.Core.Bool.{Bool, true, false}
use mathlib.Core.List.{List, [], ◌∷◌, ◌++◌}
use mathlib.Core.Logic.{◌↔◌}
use lib.IntN.{ℤ, pos, ◌+ℤ◌, ◌-ℤ◌}
use Prim.Native.Nat.{ℕ, suc, ◌<◌}
use native.Mathlib.Omega.{arith}
use borrow.Author.Tests.{eq-eqb}
use lib.ListN.{length}
use Rattle.num_bytes.specs.Choice.{pick}
use Rattle.num_bytes.proofs.Tests.{by_cases, clash}
use Rattle.plant_def.specs.declared.Stream.{Stream}
use Rattle.plant_def.specs.Plants.{Plant}
use Rattle.plant_def.specs.Within.{Within}
use Rattle.flow_def.specs.declared.Class.TheVariants.{Given, Withheld}
use Rattle.flow_def.specs.Flows.{stream_at, amount_at, metered_of, Agree}
use Rattle.flow_def.specs.Classes.{unmetered_but, on_loop, class_of}
use Rattle.flow_def.specs.Shown.{Unmetered}
use Rattle.num_bytes.proofs.Integers.{canon, Z_diff}
use Rattle.flow_def.proofs.Nets.{net_of, listed, listed_size, listed_at, listed_balanced}
use Rattle.flow_def.proofs.Reach.{chain_sym, joined→chain}
use Rattle.flow_def.proofs.Routes.{only, only_at, only_off, brought_ends, net_none, net_plus, net_only, Route, route}
use Rattle.flow_def.proofs.Given.{class_means, given_agree}

-- Flows that agree on each metered stream.
pub metered_same : (ss : List Stream) (ys zs : List ℤ) → length ys ≡ length ss → length zs ≡ length ss
    → ((k : ℕ) → k < length ss → (stream_at ss k).metered ≡ true → amount_at ys k ≡ amount_at zs k) → metered_of ss ys ≡ metered_of ss zs
metered_same [] ys zs m n h = refl
metered_same (s ∷ ss) [] zs m n h = absurd (omega arith)
metered_same (s ∷ ss) (y ∷ ys) [] m n h = absurd (omega arith)
metered_same (s ∷ ss) (y ∷ ys) (z ∷ zs) m n h =
    go s.metered (h 0 (omega arith)) (metered_same ss ys zs (omega arith) (omega arith) (λ k l. h (suc k) (omega arith)))
  where
    go : (b : Bool) → (b ≡ true → y ≡ z) → metered_of ss ys ≡ metered_of ss zs
        → pick b (y ∷ []) [] ++ metered_of ss ys ≡ pick b (z ∷ []) [] ++ metered_of ss zs
    go true q r = rw (q refl, r)
    go false q r = r

turn : (a b : ℤ) → a -ℤ b +ℤ (b -ℤ a) ≡ pos 0
turn a b = rw (← canon a, ← canon b) (simp Z_diff (omega arith))

-- An unmetered stream on a loop: no flow, and a unit round the loop, agree on all meters and differ on it.
abbrev Differ : Plant → ℕ → Type 0
Differ p i = (ys : List ℤ) × (zs : List ℤ) × Agree p ys zs × (amount_at ys i ≡ amount_at zs i → ⊥)

module _ (p : Plant) (i : ℕ) (l : i < length p.streams) (m : (stream_at p.streams i).metered ≡ false) where
  around : (y : ℕ → ℤ) → Route (unmetered_but i) p.streams (stream_at p.streams i).to (stream_at p.streams i).from (pos 1) y → Differ p i
  around y r = (
    listed p still,
    listed p x,
    record {
      first = listed_balanced p still (λ u l. net_none p.streams u);
      second = listed_balanced p x (λ u l. net u);
      metered = metered_same p.streams (listed p still) (listed p x) (listed_size p still) (listed_size p x)
          (λ k h t. listed_at p still k h ∙ sym (listed_at p x k h ∙ unseen k t));
    },
    λ e. zero_one (sym (listed_at p still i l) ∙ e ∙ listed_at p x i l ∙ here),
  )
    where
      s : Stream
      s = stream_at p.streams i

      still : ℕ → ℤ
      still k = pos 0

      x : ℕ → ℤ
      x k = y k +ℤ only i (pos 1) k

      net : (u : ℕ) → net_of p.streams (λ k. y k +ℤ only i (pos 1) k) u ≡ pos 0
      net u =
          net_plus p.streams y (only i (pos 1)) u
          ∙ ap₂ ◌+ℤ◌ (r.net u) (net_only p.streams i (pos 1) u l ∙ brought_ends u s (pos 1))
          ∙ turn (only s.from (pos 1) u) (only s.to (pos 1) u)

      -- Nothing runs on a metered stream.
      unseen : (k : ℕ) → (stream_at p.streams k).metered ≡ true → x k ≡ pos 0
      unseen k t = ap₂ ◌+ℤ◌ (r.off k (rw t)) (only_off i k (pos 1) (λ q. clash (stream_at p.streams k).metered t (rw (← q) m)))

      here : x i ≡ pos 1
      here = ap₂ ◌+ℤ◌ (r.off i (rw (m, eq-eqb i i refl))) (only_at i (pos 1))

      zero_one : pos 0 ≡ pos 1 → ⊥
      zero_one e = let z : ◌≡◌ {A = ℕ} 0 1 = cc in omega arith

  on_loop_lem : on_loop p i ≡ true → Differ p i
  on_loop_lem o =
      let s = stream_at p.streams i in
      let r = route (unmetered_but i) p.streams s.to (pos 1) (chain_sym (joined→chain (unmetered_but i) p s.from s.to o)) in
      around r.0 r.1

-- An unmetered stream is withheld, or given.
module _ (p : Plant) (w : Within p) (i : ℕ) (u : Unmetered p i) where
  withheld_differ : class_of p i ≡ Withheld → Differ p i
  withheld_differ e = on_loop_lem p i u.listed u.unmetered (class_means p i Withheld e).1

  either : {A : Type 0} → (class_of p i ≡ Withheld → A) → (class_of p i ≡ Given → A) → A
  either f g = by_cases (on_loop p i) (λ o. f (rw (u.unmetered, o))) (λ o. g (rw (u.unmetered, o)))

  -- Class G exactly when every two flows that agree on all metered streams agree on it.
  pub number_of : (class_of p i ≡ Given) ↔ ((ys zs : List ℤ) → Agree p ys zs → amount_at ys i ≡ amount_at zs i)
  number_of = (given_agree p w i u.listed, λ f. either (λ e. let d = withheld_differ e in absurd (d.3 (f d.0 d.1 d.2))) (λ e. e))

  -- Class W exactly when some two differ.
  pub blank_of : (class_of p i ≡ Withheld) ↔ ((ys : List ℤ) × (zs : List ℤ) × Agree p ys zs × (amount_at ys i ≡ amount_at zs i → ⊥))
  blank_of = (withheld_differ, λ d. either (λ e. e) (λ e. absurd (d.3 (given_agree p w i u.listed e d.0 d.1 d.2))))

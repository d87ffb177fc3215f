-- The lexicographic order of metered amounts: there is one cheapest flow on the metered streams, and how a flow is shown to come first.
use mathlib.Core.Path.{◌≡◌, refl, sym, ◌∙◌, ap₂}
use mathlib.Core.Bool.{Bool, true, false, ◌&&◌, false≢true}
use mathlib.Core.List.{List, [], ◌∷◌, ◌++◌}
use lib.IntN.{ℤ}
use lib.Signed.{lt_z, le_z}
use Prim.Native.Nat.{ℕ, zero, suc, ◌+◌, ◌<◌}
use native.Mathlib.Nat.{le_antisymm}
use native.Mathlib.Omega.{arith}
use native.Mathlib.Decide.{dec_le}
use lib.ListN.{length}
use Rattle.num_bytes.specs.Choice.{pick}
use Rattle.num_bytes.proofs.Tests.{and_left, and_right, and_both, or_left, or_right, or_cases}
use Rattle.plant_def.specs.declared.Stream.{Stream}
use Rattle.plant_def.specs.Plants.{Plant}
use Rattle.flow_def.specs.Flows.{stream_at, amount_at, cost, metered_of, not_after, Cheapest}
use Rattle.num_bytes.proofs.Integers.{up, dn, Le, val, le_z_le, le_le_z, lt_z_lt, lt_lt_z, Le-antisym}

-- The first amounts of two lists in order, and what follows equal first amounts.
after_le : (x y : ℤ) (xs ys : List ℤ) → not_after (x ∷ xs) (y ∷ ys) ≡ true → Le x y
after_le x y xs ys e =
    or_cases (lt_z x y) (le_z x y && not_after xs ys) e (λ t. omega (arith, lt_z_lt x y t)) (λ t. le_z_le x y (and_left (le_z x y) (not_after xs ys) t))

after_rest : (x y : ℤ) (xs ys : List ℤ) → x ≡ y → not_after (x ∷ xs) (y ∷ ys) ≡ true → not_after xs ys ≡ true
after_rest x y xs ys q e =
    or_cases (lt_z x y) (le_z x y && not_after xs ys) e (λ t. absurd (omega (arith, lt_z_lt x y t, val x y q))) (and_right (le_z x y) (not_after xs ys))

after_first : (x y : ℤ) (xs ys : List ℤ) → Le x y → (x ≡ y → not_after xs ys ≡ true) → not_after (x ∷ xs) (y ∷ ys) ≡ true
after_first x y xs ys h r = elim (dec_le (suc (up x + dn y)) (up y + dn x)) [
  | yes l ↦ or_left (lt_z x y) _ (lt_lt_z x y l)
  | no l ↦ or_right (lt_z x y) _ (and_both (le_z x y) _ (le_le_z x y h) (r (Le-antisym x y h (omega arith))))
]

-- Two lists, neither after the other, are one.
same_lists : (xs ys : List ℤ) → not_after xs ys ≡ true → not_after ys xs ≡ true → xs ≡ ys
same_lists [] [] a b = refl
same_lists [] (y ∷ ys) a b = absurd (false≢true b)
same_lists (x ∷ xs) [] a b = absurd (false≢true a)
same_lists (x ∷ xs) (y ∷ ys) a b =
    let q : x ≡ y = Le-antisym x y (after_le x y xs ys a) (after_le y x ys xs b) in
    ap₂ ◌∷◌ q (same_lists xs ys (after_rest x y xs ys q a) (after_rest y x ys xs (sym q) b))

-- On the metered streams there is one cheapest flow.
pub one : (p : Plant) (xs ys : List ℤ) → Cheapest p xs → Cheapest p ys → metered_of p.streams xs ≡ metered_of p.streams ys
one p xs ys a b = same_lists _ _ (a.tie ys b.balance (sym costs)) (b.tie xs a.balance costs)
  where
    costs : cost p.streams xs ≡ cost p.streams ys
    costs = le_antisymm (a.least ys b.balance) (b.least xs a.balance)

-- Two flows agree on the metered streams among the first k.
abbrev pub AgreeTo : ℕ → List Stream → (ℕ → ℤ) → (ℕ → ℤ) → Type 0
AgreeTo k ss x y = (j : ℕ) → j < k → (stream_at ss j).metered ≡ true → x j ≡ y j

-- Each metered amount of x among the first i is no more than that of y where the earlier ones are equal.
abbrev pub LeadsTo : ℕ → List Stream → (ℕ → ℤ) → (ℕ → ℤ) → Type 0
LeadsTo i ss x y = (k : ℕ) → k < i → (stream_at ss k).metered ≡ true → AgreeTo k ss x y → Le (x k) (y k)

-- A flow with this for all streams is not after the other.
pub in_order : (ss : List Stream) (xs ys : List ℤ) → length xs ≡ length ss → length ys ≡ length ss → LeadsTo (length ss) ss (amount_at xs) (amount_at ys)
    → not_after (metered_of ss xs) (metered_of ss ys) ≡ true
in_order [] xs ys m n h = refl
in_order (s ∷ ss) [] ys m n h = absurd (omega arith)
in_order (s ∷ ss) (x ∷ xs) [] m n h = absurd (omega arith)
in_order (s ∷ ss) (x ∷ xs) (y ∷ ys) m n h = go s.metered refl (in_order ss xs ys (omega arith) (omega arith))
  where
    later : (s.metered ≡ true → x ≡ y) → LeadsTo (length ss) ss (amount_at xs) (amount_at ys)
    later q k l t a = h (suc k) (omega arith) t from_first
      where
        from_first : AgreeTo (suc k) (s ∷ ss) (amount_at (x ∷ xs)) (amount_at (y ∷ ys))
        from_first zero j t = q t
        from_first (suc i) j t = a i (omega arith) t

    go : (b : Bool) → s.metered ≡ b → (LeadsTo (length ss) ss (amount_at xs) (amount_at ys) → not_after (metered_of ss xs) (metered_of ss ys) ≡ true)
        → not_after (pick b (x ∷ []) [] ++ metered_of ss xs) (pick b (y ∷ []) [] ++ metered_of ss ys) ≡ true
    go true t r = after_first x y (metered_of ss xs) (metered_of ss ys) (h 0 (omega arith) t (λ j l. absurd (omega arith))) (λ q. r (later (λ m. q)))
    go false t r = r (later (λ m. absurd (false≢true (sym t ∙ m))))

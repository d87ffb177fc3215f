-- What the search's loops write, one stream or one place after the other.
use mathlib.Core.Path.{◌≡◌, refl, sym, ◌∙◌, ap}
use mathlib.Core.Bool.{Bool, true, false}
use mathlib.Core.List.{List, [], ◌∷◌}
use Prim.Native.Nat.{ℕ, zero, suc, ◌+◌, ◌-◌}
use native.Mathlib.Omega.{arith}
use lib.Dec.{eqb, ltb}
use lib.ListN.{length, get_or, set, length-set}
use lib.Seq.{ext_get_or}
use Rattle.num_bytes.specs.Choice.{pick}
use Rattle.num_bytes.proofs.Tests.{picked}
use Rattle.plant_def.specs.Limits.{places}
use Rattle.num_bytes.proofs.Lists.{Written}
use Rattle.solve_def.specs.Search.{fallen}
use Rattle.solve_def.specs.Near.{code_of, lessened, relaxed_along, relaxed_at, relaxed_to, fallen_by}

-- The potentials of visited places reduced.
pub fallen_at : (ls : List Bool) (ks : List ℕ) (k : ℕ) (ps : List ℕ) (u : ℕ)
    → get_or (fallen_by ls ks k ps) u 0 ≡ fallen (get_or ls u false) (k - get_or ks u 0) (get_or ps u 0)
unfolding fallen_by
fallen_at [] ks k ps u = refl
fallen_at (l ∷ ls) ks k [] u = sym (none (get_or (l ∷ ls) u false))
  where
    none : (b : Bool) → fallen b (k - get_or ks u 0) 0 ≡ 0
    none true = omega arith
    none false = refl
fallen_at (l ∷ ls) [] k (p ∷ ps) zero = ap (λ (j : ℕ). fallen l j p) (omega arith)
fallen_at (l ∷ ls) [] k (p ∷ ps) (suc u) = fallen_at ls [] k ps u
fallen_at (l ∷ ls) (j ∷ ks) k (p ∷ ps) zero = refl
fallen_at (l ∷ ls) (j ∷ ks) k (p ∷ ps) (suc u) = fallen_at ls ks k ps u

-- As many potentials as before.
pub fallen_long : (ls : List Bool) (ks : List ℕ) (k : ℕ) (ps : List ℕ) → length (fallen_by ls ks k ps) ≡ length ps
unfolding fallen_by
fallen_long [] ks k ps = refl
fallen_long (l ∷ ls) ks k [] = refl
fallen_long (l ∷ ls) [] k (p ∷ ps) = rw (fallen_long ls [] k ps)
fallen_long (l ∷ ls) (j ∷ ks) k (p ∷ ps) = rw (fallen_long ls ks k ps)

-- At distance 0 no potential falls.
pub fallen_none : (ls : List Bool) (ks ps : List ℕ) → fallen_by ls ks 0 ps ≡ ps
fallen_none ls ks ps = ext_get_or 0 (fallen_by ls ks 0 ps) ps (fallen_long ls ks 0 ps) (λ u l. fallen_at ls ks 0 ps u ∙ same (get_or ls u false) (get_or ks u 0) (get_or ps u 0))
  where
    same : (b : Bool) (a p : ℕ) → fallen b (0 - a) p ≡ p
    same true a p = omega arith
    same false a p = refl

-- What a loop over the places writes.
pub fallen_is : (ls : List Bool) (ks : List ℕ) (k : ℕ) (ps now : List ℕ) → length ps ≡ places
    → Written 0 places (λ u x. fallen (get_or ls u false) (k - get_or ks u 0) x) ps now places → now ≡ fallen_by ls ks k ps
fallen_is ls ks k ps now h w =
    ext_get_or 0 now (fallen_by ls ks k ps) (w.long ∙ sym h ∙ sym (fallen_long ls ks k ps))
    (λ u l. w.done u (rw w.long at l) ∙ sym (fallen_at ls ks k ps u))

-- Lengths stay.
along_long : (ls : List Bool) (k v g i : ℕ) (near : List ℕ) → length (relaxed_along ls k v g i near) ≡ length near
unfolding relaxed_along
along_long ls k v g i near =
    picked (λ (r : List ℕ). length r ≡ length near) (get_or ls v false) near (lessened near v (code_of (k + g) i)) (λ o. refl)
    (λ o. picked (λ (r : List ℕ). length r ≡ length near) (ltb (code_of (k + g) i) (get_or near v 0)) (set near v (code_of (k + g) i)) near (λ q. length-set near v (code_of (k + g) i)) (λ q. refl))

relaxed_long : (fs ts gs bs : List ℕ) (ls : List Bool) (k e i : ℕ) (near : List ℕ) → length (relaxed_at fs ts gs bs ls k e i near) ≡ length near
unfolding relaxed_at
relaxed_long fs ts gs bs ls k e i near = go (eqb (get_or fs i 0) e) (eqb (get_or ts i 0) e)
  where
    go : (a b : Bool) → length (pick a (relaxed_along ls k (get_or ts i 0) (get_or gs i 0) i near) (pick b (relaxed_along ls k (get_or fs i 0) (get_or bs i 0) i near) near)) ≡ length near
    go true b = along_long ls k (get_or ts i 0) (get_or gs i 0) i near
    go false true = along_long ls k (get_or fs i 0) (get_or bs i 0) i near
    go false false = refl

-- As many codes as before.
pub relaxed_all_long : (fs ts gs bs : List ℕ) (ls : List Bool) (k e i : ℕ) (near : List ℕ) → length (relaxed_to fs ts gs bs ls k e i near) ≡ length near
unfolding relaxed_to
relaxed_all_long fs ts gs bs ls k e zero near = refl
relaxed_all_long fs ts gs bs ls k e (suc i) near = relaxed_all_long fs ts gs bs ls k e i _ ∙ relaxed_long fs ts gs bs ls k e i near

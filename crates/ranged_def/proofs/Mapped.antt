-- Streams moved in an array, and a narrower range looked for.
use mathlib.Core.Path.{◌≡◌, refl, sym, ap, ◌∙◌}
use mathlib.Core.Bool.{Bool, true, false, ◌||◌}
use mathlib.Core.List.{List, [], ◌∷◌, map}
use Prim.Native.Nat.{ℕ, zero, suc, ◌≤◌}
use native.Mathlib.Omega.{arith}
use lib.ListN.{length}
use Rattle.std.specs.List.{list_any}
use Rattle.num_bytes.specs.Choice.{refuse_if, first_of}
use Rattle.plant_def.specs.declared.Stream.{Stream}
use Rattle.plant_def.specs.Plants.{no_stream}
use Rattle.plant_def.specs.Says.{padded}
use Rattle.ranged_def.specs.Moves.{narrower, narrow_fault}

-- The records past the last stream are empty, and a move that keeps the empty record keeps them.
pub map_padded : (f : Stream → Stream) → f no_stream ≡ no_stream → (n : ℕ) (ss : List Stream) → map f (padded n ss) ≡ padded n (map f ss)
map_padded f e zero ss = refl
map_padded f e (suc n) [] = λ i. e i ∷ map_padded f e n [] i
map_padded f e (suc n) (s ∷ ss) = ap (λ (t : List Stream). f s ∷ t) (map_padded f e n ss)

any_narrow : (ss : List Stream) → refuse_if (list_any narrower ss) 20 ≡ narrow_fault ss
any_narrow [] = refl
any_narrow (s ∷ ss) = go (narrower s) (any_narrow ss)
  where
    go : (b : Bool) → refuse_if (list_any narrower ss) 20 ≡ narrow_fault ss → refuse_if (b || list_any narrower ss) 20 ≡ first_of (refuse_if b 20) (narrow_fault ss)
    go true e = refl
    go false e = e

-- Some range of a list is narrower: refusal 20.
pub some_narrow : (ss : List Stream) → list_any narrower ss ≡ true → 20 ≡ narrow_fault ss
some_narrow ss t = ap (λ (b : Bool). refuse_if b 20) (sym t) ∙ any_narrow ss

-- None is.
pub no_narrow : (ss : List Stream) → list_any narrower ss ≡ false → 0 ≡ narrow_fault ss
no_narrow ss t = ap (λ (b : Bool). refuse_if b 20) (sym t) ∙ any_narrow ss

-- An array's padding has none.
pub narrow_padded : (n : ℕ) (ss : List Stream) → length ss ≤ n → narrow_fault (padded n ss) ≡ narrow_fault ss
narrow_padded zero [] h = refl
narrow_padded zero (s ∷ ss) h = absurd (omega arith)
narrow_padded (suc n) [] h = narrow_padded n [] (omega arith)
narrow_padded (suc n) (s ∷ ss) h = ap (first_of (refuse_if (narrower s) 20)) (narrow_padded n ss (omega arith))
